use Rattle.std.proofs.Common.{◌≡◌, drop, map}
use Rattle.std.specs.List.{list_any}
use Rattle.gq_tree.specs.Views.{name_of}
use Rattle.gq_types.specs.Look.{types_view}
use Rattle.gq_type_system.specs.Helping.ImplementationsPlaces.{breaks_interface}
use Rattle.gq_type_system.proofs.implementations.breaks_some_interface.Given as goal

abbrev pub invariant-loop-interface : goal.invariant-loop-interface
invariant-loop-interface l = list_any (λ i. breaks_interface (types_view l.types) l.number l.name i.text) (map name_of (drop l.interface-index l.interfaces)) ≡ list_any (λ i. breaks_interface (types_view l.types) l.number l.name i.text) (map name_of l.interfaces)

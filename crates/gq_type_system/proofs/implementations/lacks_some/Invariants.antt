use Rattle.std.proofs.Common.{◌≡◌, drop, map}
use Rattle.std.specs.List.{list_any}
use Rattle.gq_tree.specs.Views.{name_of}
use Rattle.gq_types.specs.Look.{types_view}
use Rattle.gq_type_system.specs.Helping.ImplementationsPlaces.{lacks_further}
use Rattle.gq_type_system.proofs.implementations.lacks_some.Given as goal

abbrev pub invariant-loop-further : goal.invariant-loop-further
invariant-loop-further l = list_any (λ i. lacks_further (types_view l.types) l.number i.text) (map name_of (drop l.further-index l.interfaces)) ≡ list_any (λ i. lacks_further (types_view l.types) l.number i.text) (map name_of l.interfaces)

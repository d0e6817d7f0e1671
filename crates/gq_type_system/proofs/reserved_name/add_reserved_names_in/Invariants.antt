use Rattle.std.proofs.Common.{◌≡◌, ◌++◌, drop}
use Rattle.gq_type_system.specs.Helping.ReservedNamePlaces.{reserved_names_in}
use Rattle.gq_type_system.specs.Helping.UsesViews.{names_view}
use Rattle.gq_type_system.proofs.reserved_name.add_reserved_names_in.Given as goal

abbrev pub invariant-loop-name : goal.invariant-loop-name
invariant-loop-name l = l.faults.items ++ reserved_names_in l.file (names_view (drop l.name-index l.names)) ≡ l.initial.faults.items ++ reserved_names_in l.file (names_view l.names)

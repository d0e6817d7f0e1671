use Rattle.std.proofs.Common.{◌≡◌, ◌++◌, drop}
use Rattle.gq_types.specs.Look.{types_view}
use Rattle.gq_type_system.specs.Helping.Groups.{roots_in_view}
use Rattle.gq_type_system.specs.Helping.RootTypesPlaces.{taken_view, roots_told}
use Rattle.gq_type_system.proofs.root_types.add_wrong_roots_in.Given as goal

abbrev pub invariant-loop-root : goal.invariant-loop-root
invariant-loop-root l = l.faults.items ++ roots_told (types_view l.types) (taken_view l.taken.items) (roots_in_view (drop l.root-index l.roots)) ≡ l.initial.faults.items ++ roots_told (types_view l.types) (taken_view l.initial.taken.items) (roots_in_view l.roots)

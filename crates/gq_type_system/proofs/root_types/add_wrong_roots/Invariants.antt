use Rattle.std.proofs.Common.{◌≡◌, ◌++◌, drop}
use Rattle.gq_types.specs.Look.{types_view}
use Rattle.gq_type_system.specs.Helping.RootTypesPlaces.{wrong_roots_of}
use Rattle.gq_type_system.specs.Helping.Walk.{at_each_number}
use Rattle.gq_type_system.proofs.root_types.add_wrong_roots.Given as goal

abbrev pub invariant-loop-number : goal.invariant-loop-number
invariant-loop-number l = l.faults.items ++ at_each_number (wrong_roots_of (types_view l.types)) l.number (drop l.number (types_view l.types)) ≡ l.initial.faults.items ++ at_each_number (wrong_roots_of (types_view l.types)) 0 (types_view l.types)

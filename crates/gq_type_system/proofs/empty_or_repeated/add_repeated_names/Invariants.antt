use Rattle.std.proofs.Common.{◌≡◌, ◌++◌, drop}
use Rattle.gq_type_system.specs.Helping.Groups.{names_in}
use Rattle.gq_type_system.specs.Helping.EmptyOrRepeatedPlaces.{repeated_faults_after, repeated_faults}
use Rattle.gq_type_system.proofs.empty_or_repeated.add_repeated_names.Given as goal

abbrev pub invariant-loop-one : goal.invariant-loop-one
invariant-loop-one l = l.faults.items ++ repeated_faults_after l.seen (names_in (drop l.one-index l.names)) ≡ l.initial.faults.items ++ repeated_faults (names_in l.names)

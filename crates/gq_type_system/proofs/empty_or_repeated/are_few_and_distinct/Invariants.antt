use Rattle.std.proofs.Common.{◌≡◌, drop, take}
use Rattle.gq_type_system.specs.Helping.Groups.{names_in}
use Rattle.gq_type_system.specs.Helping.EmptyOrRepeatedPlaces.{texts_of, repeated_faults_after, repeated_faults}
use Rattle.gq_type_system.proofs.empty_or_repeated.are_few_and_distinct.Given as goal

abbrev pub invariant-loop-at : goal.invariant-loop-at
invariant-loop-at l = repeated_faults_after (texts_of (names_in (take l.at l.names))) (names_in (drop l.at l.names)) ≡ repeated_faults (names_in l.names)

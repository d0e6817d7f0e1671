use Rattle.std.proofs.Common.{◌≡◌, ◌++◌, drop, map}
use Rattle.gq_tree.specs.Views.{input_view}
use Rattle.gq_type_system.specs.Helping.EmptyOrRepeatedPlaces.{repeated_arguments_after, repeated_arguments_in}
use Rattle.gq_type_system.proofs.empty_or_repeated.add_repeated_arguments_in.Given as goal

abbrev pub invariant-loop-one : goal.invariant-loop-one
invariant-loop-one l = l.faults.items ++ repeated_arguments_after l.file l.seen (map input_view (drop l.one-index l.arguments)) ≡ l.initial.faults.items ++ repeated_arguments_in l.file (map input_view l.arguments)

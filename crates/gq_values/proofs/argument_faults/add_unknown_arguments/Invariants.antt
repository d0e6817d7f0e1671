use Rattle.std.proofs.Common.{◌≡◌, ◌++◌, drop, map}
use Rattle.gq_tree.specs.Views.{argument_view, input_view}
use Rattle.gq_values.specs.ArgumentFaults.{argument_names}
use Rattle.gq_values.specs.ArgumentPlaces.{unknown_arguments}
use Rattle.gq_values.proofs.argument_faults.add_unknown_arguments.Given as goal

abbrev pub invariant-loop-argument : goal.invariant-loop-argument
invariant-loop-argument l =
    l.faults.items ++ unknown_arguments l.file (map input_view l.known.all.now) (argument_names (map argument_view (drop l.argument-index l.arguments))) ≡ l.initial.faults.items ++ unknown_arguments l.file (map input_view l.known.all.now) (argument_names (map argument_view l.arguments))

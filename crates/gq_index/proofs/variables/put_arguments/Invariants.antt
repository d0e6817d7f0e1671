use Rattle.std.proofs.Common.{◌≡◌, ◌++◌, drop, map}
use Rattle.gq_tree.specs.Names.{names_at}
use Rattle.gq_tree.specs.Views.{argument_view}
use Rattle.gq_index.specs.VariableNames.{argument_variables}
use Rattle.gq_index.proofs.variables.put_arguments.Given as goal

abbrev pub invariant-loop-argument : goal.invariant-loop-argument
invariant-loop-argument l =
    names_at l.names.items ++ argument_variables (map argument_view (drop l.argument-index l.arguments)) ≡ names_at l.initial.names.items ++ argument_variables (map argument_view l.arguments)

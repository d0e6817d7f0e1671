use Rattle.std.proofs.Common.{drop, map}
use Rattle.gq_tree.specs.Views.{argument_view}
use Rattle.gq_variables.specs.Helping.UsesNothing.{ArgumentsUseNothing}
use Rattle.gq_variables.proofs.has_variable.has_variable_among.Given as goal

-- those that were passed use nothing
abbrev pub invariant-loop-argument : goal.invariant-loop-argument
invariant-loop-argument l = ArgumentsUseNothing (map argument_view (drop l.argument-index l.arguments)) → ArgumentsUseNothing (map argument_view l.arguments)

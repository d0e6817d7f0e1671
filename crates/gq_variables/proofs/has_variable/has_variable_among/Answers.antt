use Rattle.std.proofs.Common.{sym, ◌∙◌}
use Rattle.gq_variables.proofs.NothingLemmas.{arguments_from}
use Rattle.gq_variables.proofs.has_variable.has_variable_among.Goals as goal

pub loop-argument-preserved : goal.loop-argument-preserved
loop-argument-preserved c = λ rest.
    c.loop-argument.invariant
    (arguments_from c.args.arguments.now c.loop-argument.argument-index c.argument-item.result c.loop-argument-test.true c.argument-item.is (sym c.has_variable.ensures ∙ c.if-has_variable.false) rest)

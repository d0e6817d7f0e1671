use Rattle.std.proofs.Common.{sym, ◌∙◌, arith}
use Rattle.gq_variables.proofs.AlikeLemmas.{alike_at}
use Rattle.gq_variables.proofs.alike.are_alike.Goals as goal

pub loop-place-preserved : goal.loop-place-preserved
loop-place-preserved c = λ rest.
    c.loop-place.invariant
    (alike_at c.args.before.now c.args.now.now c.loop-place.place c.index-before-place.result c.index-now-place.result (omega (arith, c.if-before-now.false, c.loop-place-test.true)) (omega (arith, c.loop-place-test.true))
    c.index-before-place.is c.index-now-place.is (sym c.is_alike.ensures ∙ c.if-not-is_alike.false) rest)

use Rattle.std.proofs.Common.{arith, sym, ◌∙◌}
use Rattle.std.proofs.lemmas.List.Sums.{prefix_len-drop_yes, prefix_len-drop_no, prefix_len-drop_all}
use Rattle.gq_lex.specs.Bytes.{is_white_space}
use Rattle.gq_lex.proofs.bytes.white_space_len.Goals as goal

pub loop-i-preserved : goal.loop-i-preserved
loop-i-preserved c =
    omega (arith, c.loop-i.invariant, prefix_len-drop_yes is_white_space c.args.bytes.now c.loop-i.i 0 c.loop-i-test.true (sym c.is_white_space.ensures ∙ c.if-not-is_white_space.false))

pub returns-then-not-is_white_space-clause-count : goal.returns-then-not-is_white_space-clause-count
returns-then-not-is_white_space-clause-count c =
    omega (arith, c.loop-i.invariant, prefix_len-drop_no is_white_space c.args.bytes.now c.loop-i.i 0 c.loop-i-test.true (sym c.is_white_space.ensures ∙ c.if-not-is_white_space.true))

pub returns-clause-count : goal.returns-clause-count
returns-clause-count c = omega (arith, c.loop-i.invariant, prefix_len-drop_all is_white_space c.args.bytes.now c.loop-i.i c.loop-i-test.false)

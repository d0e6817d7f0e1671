use Rattle.std.proofs.Common.{arith, sym, ◌∙◌}
use Rattle.std.proofs.lemmas.List.Sums.{prefix_len-drop_yes, prefix_len-drop_no, prefix_len-drop_all}
use Rattle.gq_lex.specs.Bytes.{is_digit}
use Rattle.gq_table.proofs.numbers.digits_len.Goals as goal

pub loop-at-preserved : goal.loop-at-preserved
loop-at-preserved c = omega (arith, c.loop-at.invariant, prefix_len-drop_yes is_digit c.args.bytes.now c.loop-at.at 0 c.loop-at-test.true (sym c.is_digit.ensures ∙ c.if-not-is_digit.false))

pub returns-then-not-is_digit-clause-is : goal.returns-then-not-is_digit-clause-is
returns-then-not-is_digit-clause-is c = omega (arith, c.loop-at.invariant, prefix_len-drop_no is_digit c.args.bytes.now c.loop-at.at 0 c.loop-at-test.true (sym c.is_digit.ensures ∙ c.if-not-is_digit.true))

pub returns-clause-is : goal.returns-clause-is
returns-clause-is c = omega (arith, c.loop-at.invariant, prefix_len-drop_all is_digit c.args.bytes.now c.loop-at.at c.loop-at-test.false)

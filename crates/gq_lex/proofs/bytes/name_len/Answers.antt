use Rattle.std.proofs.Common.{arith, sym, ◌∙◌}
use Rattle.std.proofs.lemmas.List.Sums.{prefix_len-drop_yes, prefix_len-drop_no, prefix_len-drop_all}
use Rattle.gq_lex.specs.Bytes.{is_name_continue}
use Rattle.gq_lex.proofs.bytes.name_len.Goals as goal

pub loop-i-preserved : goal.loop-i-preserved
loop-i-preserved c =
    omega (arith, c.loop-i.invariant, prefix_len-drop_yes is_name_continue c.args.bytes.now c.loop-i.i 0 c.loop-i-test.true (sym c.is_name_continue.ensures ∙ c.if-not-is_name_continue.false))

pub returns-then-not-is_name_continue-clause-count : goal.returns-then-not-is_name_continue-clause-count
returns-then-not-is_name_continue-clause-count c =
    omega (arith, c.loop-i.invariant, prefix_len-drop_no is_name_continue c.args.bytes.now c.loop-i.i 0 c.loop-i-test.true (sym c.is_name_continue.ensures ∙ c.if-not-is_name_continue.true))

pub returns-clause-count : goal.returns-clause-count
returns-clause-count c = omega (arith, c.loop-i.invariant, prefix_len-drop_all is_name_continue c.args.bytes.now c.loop-i.i c.loop-i-test.false)

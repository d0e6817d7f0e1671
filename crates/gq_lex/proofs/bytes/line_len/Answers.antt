use Rattle.std.proofs.Common.{arith, sym, ◌∙◌}
use Rattle.std.proofs.lemmas.List.Sums.{prefix_len-drop_yes, prefix_len-drop_no, prefix_len-drop_all}
use Rattle.gq_lex.specs.Decoding.{is_line_byte}
use Rattle.gq_lex.proofs.bytes.line_len.Goals as goal

pub loop-i-preserved : goal.loop-i-preserved
loop-i-preserved c =
    omega (arith, c.loop-i.invariant, prefix_len-drop_yes is_line_byte c.args.bytes.now c.loop-i.i 0 c.loop-i-test.true (sym c.is_line_byte.ensures ∙ c.if-not-is_line_byte.false))

pub returns-then-not-is_line_byte-clause-count : goal.returns-then-not-is_line_byte-clause-count
returns-then-not-is_line_byte-clause-count c =
    omega (arith, c.loop-i.invariant, prefix_len-drop_no is_line_byte c.args.bytes.now c.loop-i.i 0 c.loop-i-test.true (sym c.is_line_byte.ensures ∙ c.if-not-is_line_byte.true))

pub returns-clause-count : goal.returns-clause-count
returns-clause-count c = omega (arith, c.loop-i.invariant, prefix_len-drop_all is_line_byte c.args.bytes.now c.loop-i.i c.loop-i-test.false)

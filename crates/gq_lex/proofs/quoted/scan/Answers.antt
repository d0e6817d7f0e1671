use Rattle.std.proofs.Common.{◌≡◌, ◌+◌, ◌≤◌, Some, sym, ap, ◌∙◌, arith, length}
use Rattle.gq_lex.specs.Scanning.{step_at, scan}
use Rattle.gq_lex.proofs.Quotes.{Onward, left_first, left_ends, left_goes, left_fails, left_all}
use Rattle.gq_lex.proofs.quoted.scan.Goals as goal

ends : (c : goal.In-Ends) → (scan c.args.form c.args.bytes.now 0 ≡ Some (c.loop-at.at + c.in-Ends.len)) × (c.loop-at.at + c.in-Ends.len ≤ length c.args.bytes.now)
ends c = left_ends c.args.form c.args.bytes.now c.loop-at.at c.in-Ends.len c.loop-at-test.true c.loop-at.invariant.left (ap (step_at c.args.form) (sym c.behind.ensures) ∙ sym c.step_at.ensures ∙ c.in-Ends.is)

goes : (c : goal.In-Goes) → Onward c.args.form c.args.bytes.now c.loop-at.at c.in-Goes.len
goes c = left_goes c.args.form c.args.bytes.now c.loop-at.at c.in-Goes.len c.loop-at-test.true c.loop-at.invariant.left (ap (step_at c.args.form) (sym c.behind.ensures) ∙ sym c.step_at.ensures ∙ c.in-Goes.is)

pub loop-at-init : goal.loop-at-init
loop-at-init c = record { within = omega arith; left = left_first c.args.form c.args.bytes.now }

pub overflow_add-result : goal.overflow_add-result
overflow_add-result c = omega (arith, (ends c).1)

pub returns-in-Ends-clause-len : goal.returns-in-Ends-clause-len
returns-in-Ends-clause-len c = sym (ends c).0

pub returns-in-Ends-clause-within : goal.returns-in-Ends-clause-within
returns-in-Ends-clause-within c = (ends c).1

pub overflow_add-at : goal.overflow_add-at
overflow_add-at c = omega (arith, (goes c).within)

pub loop-at-smaller : goal.loop-at-smaller
loop-at-smaller c = omega (arith, (goes c).within, (goes c).some)

pub loop-at-preserved : goal.loop-at-preserved
loop-at-preserved c = record { within = (goes c).within; left = (goes c).left }

pub returns-in-Fails-clause-len : goal.returns-in-Fails-clause-len
returns-in-Fails-clause-len c =
    sym (left_fails c.args.form c.args.bytes.now c.loop-at.at c.loop-at-test.true c.loop-at.invariant.left (ap (step_at c.args.form) (sym c.behind.ensures) ∙ sym c.step_at.ensures ∙ c.in-Fails.is))

pub returns-clause-len : goal.returns-clause-len
returns-clause-len c = sym (left_all c.args.form c.args.bytes.now c.loop-at.at c.loop-at-test.false c.loop-at.invariant.left)

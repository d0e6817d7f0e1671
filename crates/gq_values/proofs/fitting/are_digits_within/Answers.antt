use Rattle.std.proofs.Common.{arith}
use Rattle.gq_values.proofs.DigitLemmas.{past_limit}
use Rattle.gq_values.proofs.fitting.are_digits_within.Goals as goal

pub returns-then-value-limit : goal.returns-then-value-limit
returns-then-value-limit c = past_limit c.loop-digit.value c.args.limit c.loop-digit.digit-index c.args.digits.now c.loop-digit-test.true (omega (arith, c.if-value-limit.true, c.saturating_sub.ensures)) c.loop-digit.invariant.rest

use Rattle.std.proofs.Common.{arith}
use Rattle.gq_check.proofs.ReasonLemmas.{bytes_flaw-text, bytes_flaw-other}
use Rattle.gq_check.proofs.reasons.flaw_of.Goals as goal

pub returns-in_default-from_utf8 : goal.returns-in_default-from_utf8
returns-in_default-from_utf8 c =
    bytes_flaw-other _ _ c.in-Some.bytes c.in-Some.is (omega arith) (λ utf8. c.in_default-from_utf8.ensures.cases.0 (rw c.deref.ensures.value utf8))

pub returns : goal.returns
returns c = bytes_flaw-text _ _ c.in-Some.bytes c.in-Some.is (omega arith) (rw c.deref.ensures.value at c.in-Ok.ensures.cases.1)

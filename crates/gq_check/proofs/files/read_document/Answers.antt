use Rattle.std.proofs.Common.{arith}
use Rattle.gq_check.proofs.FileLemmas.{bytes_fault-text, bytes_fault-other}
use Rattle.gq_check.proofs.files.read_document.Goals as goal

pub returns-in_default-from_utf8-clause-refused : goal.returns-in_default-from_utf8-clause-refused
returns-in_default-from_utf8-clause-refused c =
    bytes_fault-other _ c.in-Some.bytes c.in-Some.is (omega arith) (λ utf8. c.in_default-from_utf8.ensures.cases.0 (rw c.deref.ensures.value utf8))

pub returns-clause-accepted : goal.returns-clause-accepted
returns-clause-accepted c =
    bytes_fault-text _ c.in-Some.bytes c.in-Some.is (omega arith) (rw c.deref.ensures.value at c.in-Ok.ensures.cases.1)

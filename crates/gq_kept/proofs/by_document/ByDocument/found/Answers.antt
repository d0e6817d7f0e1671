-- What is told of faults; all else stays.
use Rattle.std.proofs.lemmas.Result.{IfOk-weaker}
use Rattle.gq_kept.proofs.by_document.ByDocument.found.Goals as goal

pub returns-clause-kept : goal.returns-clause-kept
returns-clause-kept c are = record { faults = c.found.ensures.kept are.faults; fields = are.fields; parts = are.parts }

pub returns-clause-faults : goal.returns-clause-faults
returns-clause-faults c = IfOk-weaker c.found.result _ _ (λ faults told are. told are.faults) c.found.ensures.faults

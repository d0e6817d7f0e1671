use Rattle.std.proofs.Common.{take, length, ◌≤◌, ◌^◌}
use Rattle.std.specs.List.{AllByRecursion}
use Rattle.gq_events.proofs.documents.SessionDocuments.texts_fit.Given as goal

abbrev pub invariant-loop-document : goal.invariant-loop-document
invariant-loop-document l = AllByRecursion (λ document. length document.text ≤ 2 ^ 22) (take l.document-index l.document-items)

use Rattle.std.proofs.Common.{◌≡◌, drop, find}
use Rattle.gq_edit.specs.Edits.{FitDocuments, is_too_large}
use Rattle.gq_edit.proofs.applying.first_too_large.Given as goal

-- none that was passed is too large
abbrev pub invariant-loop-document_edit : goal.invariant-loop-document_edit
invariant-loop-document_edit l = record {
  fit : FitDocuments l.project (drop l.document_edit-index l.document_edit-items);
  rest : find (is_too_large l.project) (drop l.document_edit-index l.document_edit-items) ≡ find (is_too_large l.project) l.edit;
}

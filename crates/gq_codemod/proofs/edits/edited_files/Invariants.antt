use Rattle.std.proofs.Common.{◌≡◌, ◌++◌, drop}
use Rattle.gq_edit.specs.Edits.{FitDocuments}
use Rattle.gq_codemod.specs.Edits.{edited_files}
use Rattle.gq_codemod.proofs.edits.edited_files.Given as goal

-- what is edited, and what is left to edit
abbrev pub invariant-loop-document_edit : goal.invariant-loop-document_edit
invariant-loop-document_edit l = record {
  fit : FitDocuments l.project (drop l.document_edit-index l.document_edit-items);
  whole : l.files.items ++ edited_files l.project (drop l.document_edit-index l.document_edit-items) ≡ edited_files l.project l.edit;
}

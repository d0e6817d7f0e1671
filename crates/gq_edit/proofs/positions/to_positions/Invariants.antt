use Rattle.std.proofs.Common.{◌≡◌, ◌++◌, drop, option_map}
use Rattle.std.specs.List.{filter_map}
use Rattle.gq_edit.specs.Edits.{FitDocuments, document_of}
use Rattle.gq_edit.specs.Workspace.{document_edit_of}
use Rattle.gq_edit.proofs.positions.to_positions.Given as goal

-- what is placed, and what is left to place
abbrev pub invariant-loop-document_edit : goal.invariant-loop-document_edit
invariant-loop-document_edit l = record {
  fit : FitDocuments l.project (drop l.document_edit-index l.document_edit-items);
  whole :
      l.document_changes ++ filter_map (λ edit. option_map (document_edit_of l.encoding edit) (document_of l.project edit)) (drop l.document_edit-index l.document_edit-items)
      ≡ filter_map (λ edit. option_map (document_edit_of l.encoding edit) (document_of l.project edit)) l.edit;
}

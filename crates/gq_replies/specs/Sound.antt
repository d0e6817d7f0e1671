-- What holds of each edit that is told.
use Rattle.std.specs.Prelude.{◌≡◌, List, None, find}
use Rattle.gq_project.specs.declared.document.Doc.{Doc}
use Rattle.gq_edit.specs.declared.edit.DocumentEdit.{DocumentEdit}
use Rattle.gq_edit.specs.Edits.{FitDocuments, after_edit, is_moved}
use Rattle.gq_rules.specs.Validity.{IsValid}
use Rattle.gq_rename.specs.LeadBack.{EditsLeadBack}

-- The documents are a valid project. Each document that is edited is there at the version that the edit states, and its text has the spans; the
-- positions that are written for their ends lead back to these. What the edit makes of the documents is a valid project.
pub record IsSound (documents : List Doc) (edits : List DocumentEdit) : Type 0 where
  pub valid : ∥ IsValid documents ∥₁
  pub there : find (is_moved documents) edits ≡ None
  pub fits : FitDocuments documents edits
  pub leads_back : EditsLeadBack documents edits
  pub stays_valid : ∥ IsValid (after_edit edits documents) ∥₁

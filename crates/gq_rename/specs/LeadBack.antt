-- That the positions which are written for an edit lead back to its offsets.
use Rattle.std.specs.Prelude.{◌≡◌, ℕ, List}
use Rattle.std.specs.List.{AllByRecursion}
use Rattle.std.specs.Option.{ForSome}
use Rattle.gq_text.specs.Place.{off, pos}
use Rattle.gq_text.specs.declared.place.PositionEncoding.{PositionEncoding}
use Rattle.gq_text.specs.declared.replacement.Replacement.{Replacement}
use Rattle.gq_project.specs.declared.document.Doc.{Doc}
use Rattle.gq_edit.specs.declared.edit.DocumentEdit.{DocumentEdit}
use Rattle.gq_edit.specs.Edits.{document_of}

-- in each encoding, the position of the offset leads back to it
abbrev pub LeadsBack : List ℕ → ℕ → Type 0
LeadsBack text offset = (encoding : PositionEncoding) → off encoding text (pos encoding text offset) ≡ offset

-- so it is at both ends of each span
abbrev pub SpansLeadBack : List ℕ → List Replacement → Type 0
SpansLeadBack text replacements = AllByRecursion (λ r. LeadsBack text r.span.start × LeadsBack text r.span.end) replacements

-- in the text of the document of each edit, where that is there
abbrev pub EditsLeadBack : List Doc → List DocumentEdit → Type 0
EditsLeadBack documents edits = AllByRecursion (λ edit. ForSome (document_of documents edit) (λ document. SpansLeadBack document.text edit.replacements)) edits

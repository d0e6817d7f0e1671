-- That a rename has one answer, and what its edit says of the documents.
use Rattle.std.specs.Prelude.{◌≡◌, ℕ, List, Option, None, Result, Ok, find}
use Rattle.gq_text.specs.declared.place.Span.{Span}
use Rattle.gq_tree.specs.Readings.{ParsedOf}
use Rattle.gq_project.specs.declared.document.Doc.{Doc}
use Rattle.gq_parse.specs.Parsed.{AreParsed}
use Rattle.gq_project.specs.Documents.{IsInOrder}
use Rattle.gq_edit.specs.declared.edit.DocumentEdit.{DocumentEdit}
use Rattle.gq_edit.specs.Edits.{is_moved}
use Rattle.gq_rename.specs.declared.refusal.Refusal.{Refusal}
use Rattle.gq_rename.specs.LeadBack.{EditsLeadBack}
use Rattle.gq_rename.specs.Prepare.{IsPrepared}
use Rattle.gq_rename.specs.Rename.{IsRenameAnswer}
use Rattle.gq_rename.specs.Sound.{AreUtf8}

-- two answers to a rename are one
abbrev pub RenamesAreDetermined : Type 0
RenamesAreDetermined =
    (documents : List Doc) (key : List ℕ) (offset : ℕ) (new : List ℕ) (a b : Result (List DocumentEdit) Refusal) →
    IsRenameAnswer documents key offset new a → IsRenameAnswer documents key offset new b → a ≡ b

-- so are two names that it would change
abbrev pub PreparedNamesAreDetermined : Type 0
PreparedNamesAreDetermined = (documents : List Doc) (key : List ℕ) (offset : ℕ) (a b : Option Span) → IsPrepared documents key offset a → IsPrepared documents key offset b → a ≡ b

-- Documents that are read cannot be without an answer to a rename. (That some refusal holds or none does is not decided here, so no answer is given.)
abbrev pub RenamesAreThere : Type 0
RenamesAreThere =
    (documents : List Doc) (readings : List ParsedOf) → AreParsed documents readings → (key : List ℕ) (offset : ℕ) (new : List ℕ) →
    ((answer : Result (List DocumentEdit) Refusal) → IsRenameAnswer documents key offset new answer → ⊥) → ⊥

-- each document that is edited is there at the version that the edit names
abbrev pub RenamesNameVersions : Type 0
RenamesNameVersions =
    (documents : List Doc) (key : List ℕ) (offset : ℕ) (new : List ℕ) (edits : List DocumentEdit) → IsInOrder documents →
    IsRenameAnswer documents key offset new (Ok edits) → find (is_moved documents) edits ≡ None

-- the positions that are written for the edit lead back to its offsets
abbrev pub RenamesLeadBack : Type 0
RenamesLeadBack =
    (documents : List Doc) (key : List ℕ) (offset : ℕ) (new : List ℕ) (edits : List DocumentEdit) → IsInOrder documents → AreUtf8 documents →
    IsRenameAnswer documents key offset new (Ok edits) → EditsLeadBack documents edits

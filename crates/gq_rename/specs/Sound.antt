-- What is true of the edit of a rename in a valid project.
use Rattle.std.specs.Prelude.{◌≡◌, ℕ, List, find, None, Err}
use Rattle.std.specs.List.{AllByRecursion}
use Rattle.std.specs.Str.{IsUtf8}
use Rattle.gq_project.specs.declared.document.Doc.{Doc}
use Rattle.gq_project.specs.Documents.{IsInOrder}
use Rattle.gq_edit.specs.declared.edit.DocumentEdit.{DocumentEdit}
use Rattle.gq_edit.specs.Edits.{FitDocuments, is_moved, is_too_large}
use Rattle.gq_tree.specs.Readings.{ParsedOf}
use Rattle.gq_parse.specs.Parsed.{AreParsed}
use Rattle.gq_renamed.specs.Names.{IsNameText}
use Rattle.gq_renamed.specs.Renamings.{Renaming, MayName}
use Rattle.gq_renamed.specs.Projects.{AreTrees, rename_edits}
use Rattle.gq_rules.specs.Validity.{IsValid}
use Rattle.gq_rename.specs.declared.refusal.Refusal.TheVariants.{SelfCheck}
use Rattle.gq_rename.specs.Asks.{trees_of, target_of}
use Rattle.gq_rename.specs.Rename.{IsRenameAnswer, IsTooLarge, ReadsAsRenamed}

abbrev pub edits_by : (ℕ → Renaming) → List ℕ → List Doc → List ParsedOf → List DocumentEdit
edits_by rule new documents readings = rename_edits rule 0 new documents (trees_of readings)

-- The spans of the edits fit the texts, each edited document is there at its version, the edited texts read as the
-- trees with the names changed, and they pass no limit but that of bytes.
pub record IsSound (documents : List Doc) (readings : List ParsedOf) (rule : ℕ → Renaming) (new : List ℕ) : Type 0 where
  pub fit : FitDocuments documents (edits_by rule new documents readings)
  pub there : find (is_moved documents) (edits_by rule new documents readings) ≡ None
  pub reads : ReadsAsRenamed documents (trees_of readings) rule new (edits_by rule new documents readings)
  pub limits : find (is_too_large documents) (edits_by rule new documents readings) ≡ None → IsTooLarge documents (edits_by rule new documents readings) → ⊥

-- the texts are UTF-8
abbrev pub AreUtf8 : List Doc → Type 0
AreUtf8 documents = AllByRecursion (λ document. IsUtf8 document.text) documents

abbrev pub RenamesAreSound : Type 0
RenamesAreSound =
    (documents : List Doc) (readings : List ParsedOf) (rule : ℕ → Renaming) (new : List ℕ) → IsInOrder documents → AreUtf8 documents → AreParsed documents readings → ∥ IsValid documents ∥₁ → IsNameText new → ((n : ℕ) → MayName (rule n) new) →
    IsSound documents readings rule new

-- A rename in a valid project is not refused for what its edit would leave.
abbrev pub RenamesPass : Type 0
RenamesPass = (documents : List Doc) (key : List ℕ) (offset : ℕ) (new : List ℕ) → IsInOrder documents → ∥ IsValid documents ∥₁ → IsRenameAnswer documents key offset new (Err SelfCheck) → ⊥

-- the documents of a valid project have trees, which are what is read
abbrev pub ValidDocumentsAreTrees : Type 0
ValidDocumentsAreTrees = (documents : List Doc) (readings : List ParsedOf) → AreParsed documents readings → ∥ IsValid documents ∥₁ → AreTrees documents (trees_of readings)

-- however documents are read, an offset means the same
abbrev pub OffsetsMeanOneTarget : Type 0
OffsetsMeanOneTarget = (documents : List Doc) (a b : List ParsedOf) (key : List ℕ) (offset : ℕ) → AreParsed documents a → AreParsed documents b → target_of documents a key offset ≡ target_of documents b key offset

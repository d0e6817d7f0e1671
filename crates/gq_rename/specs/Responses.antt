-- What the edit of a rename keeps: what every operation is answered (section 6).
use Rattle.std.specs.Prelude.{◌≡◌, ◌↔◌, ℕ, List, Option, Some, Result, Err, ◌⊎◌, IfOk}
use Rattle.gq_project.specs.declared.document.Doc.{Doc}
use Rattle.gq_project.specs.Documents.{IsInOrder}
use Rattle.gq_edit.specs.declared.edit.DocumentEdit.{DocumentEdit}
use Rattle.gq_edit.specs.Edits.{after_edit}
use Rattle.gq_tree.specs.Readings.{ParsedOf}
use Rattle.gq_parse.specs.Parsed.{AreParsed}
use Rattle.gq_rules.specs.Project.{executable_of}
use Rattle.gq_rules.specs.Validity.{IsValid}
use Rattle.gq_table.specs.Rows.{RowOf}
use Rattle.gq_meaning.specs.Values.{Text, Values}
use Rattle.gq_response.specs.Responses.{ResponseOf}
use Rattle.gq_executor.specs.Operations.{IsResponse}
use Rattle.gq_laws.specs.Renaming.Kept.{AreGivenAlike}
use Rattle.gq_mentions.specs.declared.target.Target.{Target}
use Rattle.gq_mentions.specs.declared.target.TargetKind.{TargetKind}
use Rattle.gq_mentions.specs.declared.target.TargetKind.TheVariants as kind
use Rattle.gq_rename.specs.declared.refusal.Refusal.{Refusal}
use Rattle.gq_rename.specs.declared.refusal.Refusal.TheVariants.{NoMemory}
use Rattle.gq_rename.specs.Asks.{target_of}
use Rattle.gq_rename.specs.Rename.{IsRenameAnswer, KeepsTrees}

-- The values that an operation takes after the rename say what those before it say: the same ones, or those of a variable
-- in whose group it stands under its new name.
abbrev pub IsGivenAlike : TargetKind → List ParsedOf → Target → List ℕ → Option Text → Values → Values → Type 0
IsGivenAlike kind.Fragment readings t new name before after = before ≡ after
IsGivenAlike kind.Variable readings t new name before after = AreGivenAlike readings t.name.text t.definition new name before after

-- However the documents and the edited ones are read: over every table, and for all values of variables renamed alike, each
-- operation has the same responses before and after, with their data, the order of keys and the paths of errors.
abbrev pub KeepsResponses : List Doc → List ℕ → ℕ → List ℕ → List DocumentEdit → Type 0
KeepsResponses documents key offset new edits =
    (before after : List ParsedOf) → AreParsed documents before → AreParsed (after_edit edits documents) after →
    (t : Target) → target_of documents before key offset ≡ Some t →
    (rows : List RowOf) (name : Option Text) (raw raw_after : Values) → IsGivenAlike t.kind before t new name raw raw_after →
    (response : ResponseOf) → IsResponse (executable_of before) rows name raw response ↔ IsResponse (executable_of after) rows name raw_after response

-- so does each edit that answers a rename in a valid project
abbrev pub RenamesKeepResponses : Type 0
RenamesKeepResponses =
    (documents : List Doc) (key : List ℕ) (offset : ℕ) (new : List ℕ) → IsInOrder documents → ∥ IsValid documents ∥₁ → (result : Result (List DocumentEdit) Refusal) →
    (result ≡ Err NoMemory) ⊎ IsRenameAnswer documents key offset new result → IfOk result (KeepsTrees documents key offset new) → IfOk result (KeepsResponses documents key offset new)

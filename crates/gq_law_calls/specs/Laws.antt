-- An operation makes one list of calls, and edits keep it (section 6).
use Rattle.std.specs.Prelude.{◌≡◌, ◌↔◌, ◌⊎◌, ℕ, List, Option, Some, Result, Ok, Err, IfOk}
use Rattle.gq_project.specs.declared.document.Doc.{Doc}
use Rattle.gq_project.specs.Documents.{IsInOrder}
use Rattle.gq_edit.specs.declared.edit.DocumentEdit.{DocumentEdit}
use Rattle.gq_edit.specs.Edits.{after_edit}
use Rattle.gq_tree.specs.Readings.{ParsedOf}
use Rattle.gq_parse.specs.Parsed.{AreParsed}
use Rattle.gq_rules.specs.Project.{executable_of}
use Rattle.gq_rules.specs.Validity.{IsValid}
use Rattle.gq_table.specs.Rows.{RowOf}
use Rattle.gq_meaning.specs.Values.{Text, Values}
use Rattle.gq_meaning.specs.Results.{Call}
use Rattle.gq_mentions.specs.declared.target.Target.{Target}
use Rattle.gq_rename.specs.declared.refusal.Refusal.{Refusal}
use Rattle.gq_rename.specs.declared.refusal.Refusal.TheVariants.{NoMemory}
use Rattle.gq_rename.specs.Asks.{target_of}
use Rattle.gq_rename.specs.Rename.{IsRenameAnswer, KeepsTrees}
use Rattle.gq_rename.specs.Responses.{IsGivenAlike}
use Rattle.gq_reshape.specs.Asks.{RangeAsk}
use Rattle.gq_law_calls.specs.Calls.{AreCalls, CallsStay}

-- Over every table and for all values of variables, each operation of a valid project has a list of calls. It has no other, however
-- its documents are read.
abbrev pub OneListOfCalls : Type 0
OneListOfCalls = (documents : List Doc) → ∥ IsValid documents ∥₁ → (readings : List ParsedOf) → AreParsed documents readings → (rows : List RowOf) (name : Option Text) (raw : Values) →
    (calls : List Call) × AreCalls (executable_of readings) rows name raw calls
    × ((others : List ParsedOf) → AreParsed documents others → (other : List Call) → AreCalls (executable_of others) rows name raw other → other ≡ calls)

-- However the documents and the edited ones are read: over every table and for all values of variables, each operation has after the edit
-- exactly the calls that it had before, in their order.
abbrev pub KeepsCalls : List Doc → List DocumentEdit → Type 0
KeepsCalls documents edits = (before after : List ParsedOf) → AreParsed documents before → AreParsed (after_edit edits documents) after → CallsStay before after

-- so does each edit that is such an answer in a valid project
abbrev pub EditsKeepCalls : (List Doc → RangeAsk → Result (List DocumentEdit) Refusal → Type 0) → Type 0
EditsKeepCalls IsAnswer = (documents : List Doc) (ask : RangeAsk) → IsInOrder documents → ∥ IsValid documents ∥₁ → (edits : List DocumentEdit) → IsAnswer documents ask (Ok edits) →
    KeepsCalls documents edits

-- However the documents and the edited ones are read: over every table, and for all values of variables renamed alike, each operation
-- has after the edit of a rename exactly the calls that it had before, in their order.
abbrev pub KeepsCallsRenamed : List Doc → List ℕ → ℕ → List ℕ → List DocumentEdit → Type 0
KeepsCallsRenamed documents key offset new edits =
    (before after : List ParsedOf) → AreParsed documents before → AreParsed (after_edit edits documents) after →
    (t : Target) → target_of documents before key offset ≡ Some t →
    (rows : List RowOf) (name : Option Text) (raw raw_after : Values) → IsGivenAlike t.kind before t new name raw raw_after →
    (calls : List Call) → AreCalls (executable_of before) rows name raw calls ↔ AreCalls (executable_of after) rows name raw_after calls

-- so does each edit that answers a rename in a valid project
abbrev pub RenamesKeepCalls : Type 0
RenamesKeepCalls =
    (documents : List Doc) (key : List ℕ) (offset : ℕ) (new : List ℕ) → IsInOrder documents → ∥ IsValid documents ∥₁ → (result : Result (List DocumentEdit) Refusal) →
    (result ≡ Err NoMemory) ⊎ IsRenameAnswer documents key offset new result → IfOk result (KeepsTrees documents key offset new) → IfOk result (KeepsCallsRenamed documents key offset new)

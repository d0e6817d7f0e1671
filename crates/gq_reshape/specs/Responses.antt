-- What extract, inline and remove keep: what every operation is answered (section 6).
use Rattle.std.specs.Prelude.{List, Result, Ok}
use Rattle.gq_project.specs.declared.document.Doc.{Doc}
use Rattle.gq_project.specs.Documents.{IsInOrder}
use Rattle.gq_edit.specs.declared.edit.DocumentEdit.{DocumentEdit}
use Rattle.gq_edit.specs.Edits.{after_edit}
use Rattle.gq_tree.specs.Readings.{ParsedOf}
use Rattle.gq_parse.specs.Parsed.{AreParsed}
use Rattle.gq_rules.specs.Validity.{IsValid}
use Rattle.gq_laws.specs.Rewriting.Unchanged.{ResponsesStay}
use Rattle.gq_rename.specs.declared.refusal.Refusal.{Refusal}
use Rattle.gq_reshape.specs.Asks.{RangeAsk}

-- However the documents and the edited ones are read: over every table and for all values of variables, each operation has after the edit
-- exactly the responses that it had before, with their data, the order of keys and the paths of errors.
abbrev pub KeepsResponses : List Doc → List DocumentEdit → Type 0
KeepsResponses documents edits = (before after : List ParsedOf) → AreParsed documents before → AreParsed (after_edit edits documents) after → ResponsesStay before after

-- so does each edit that is such an answer in a valid project
abbrev pub EditsKeepResponses : (List Doc → RangeAsk → Result (List DocumentEdit) Refusal → Type 0) → Type 0
EditsKeepResponses IsAnswer = (documents : List Doc) (ask : RangeAsk) → IsInOrder documents → ∥ IsValid documents ∥₁ → (edits : List DocumentEdit) → IsAnswer documents ask (Ok edits) → KeepsResponses documents edits

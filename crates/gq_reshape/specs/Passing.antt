-- In a valid project a refactoring is not refused for what its edit would leave.
use Rattle.std.specs.Prelude.{List, Some, Result, Err}
use Rattle.gq_project.specs.declared.document.Doc.{Doc}
use Rattle.gq_project.specs.Documents.{IsInOrder}
use Rattle.gq_edit.specs.declared.edit.DocumentEdit.{DocumentEdit}
use Rattle.gq_tree.specs.Readings.{ParsedOf}
use Rattle.gq_parse.specs.Parsed.{AreParsed}
use Rattle.gq_types.specs.Entries.{EntryOf}
use Rattle.gq_schema.specs.SchemaOf.{IsTypeSystemOf}
use Rattle.gq_rules.specs.Validity.{IsValid}
use Rattle.gq_rename.specs.declared.refusal.Refusal.{Refusal}
use Rattle.gq_rename.specs.declared.refusal.Refusal.TheVariants.{SelfCheck}
use Rattle.gq_rename.specs.Asks.{trees_of}
use Rattle.gq_reshape.specs.Asks.{RangeAsk}
use Rattle.gq_reshape.specs.Cuts.{PassesCheck}
use Rattle.gq_reshape.specs.Extract.{Extraction, extract_cut, HasNoObject}
use Rattle.gq_reshape.specs.Inline.{Inlining, inline_cut, IsDirectiveInWay}
use Rattle.gq_reshape.specs.Remove.{Removal, remove_cut, IsNotRedundant}
use Rattle.gq_reshape.specs.Reshape.{PassesLimits}

-- no answer is the refusal 11
abbrev pub AnswersPass : (List Doc → RangeAsk → Result (List DocumentEdit) Refusal → Type 0) → Type 0
AnswersPass IsAnswer = (documents : List Doc) (ask : RangeAsk) → IsInOrder documents → ∥ IsValid documents ∥₁ → IsAnswer documents ask (Err SelfCheck) → ⊥

-- An inline fragment that says nothing can go: the edited texts read as the trees without its braces, and the edited project is valid.
abbrev pub RemovalsPass : Type 0
RemovalsPass =
    (documents : List Doc) → IsInOrder documents → ∥ IsValid documents ∥₁ → (readings : List ParsedOf) → AreParsed documents readings → (ask : RangeAsk) (types : List EntryOf) → IsTypeSystemOf documents types →
    (r : Removal documents types readings ask) → (IsNotRedundant documents types readings ask → ⊥) → PassesCheck documents (trees_of readings) (remove_cut r)

-- A spread can become an inline fragment, where no directive is in the way and no edited text passes a limit.
abbrev pub InlinesPass : Type 0
InlinesPass =
    (documents : List Doc) → IsInOrder documents → ∥ IsValid documents ∥₁ → (readings : List ParsedOf) → AreParsed documents readings → (ask : RangeAsk) (types : List EntryOf) → IsTypeSystemOf documents types →
    (i : Inlining documents types readings ask) → (IsDirectiveInWay documents types readings ask → ⊥) → (PassesLimits documents (inline_cut i) → ⊥) → PassesCheck documents (trees_of readings) (inline_cut i)

-- A run can go into a new fragment, where some object type is possible for it and no edited text passes a limit: the edited texts read as the
-- trees with the spread and the fragment, and the edited project is valid.
abbrev pub ExtractsPass : Type 0
ExtractsPass =
    (documents : List Doc) → IsInOrder documents → ∥ IsValid documents ∥₁ → (readings : List ParsedOf) → AreParsed documents readings → (ask : RangeAsk) (types : List EntryOf) →
    IsTypeSystemOf documents types → (e : Extraction documents types readings ask) → (HasNoObject types (Some e.parent) → ⊥) → (PassesLimits documents (extract_cut e) → ⊥) → PassesCheck documents (trees_of readings) (extract_cut e)

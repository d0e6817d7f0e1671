-- The answers to extract, inline and remove: the first refusal whose condition holds, else the exact edit.
use Rattle.std.specs.Prelude.{◌≡◌, List, Result}
use Rattle.gq_project.specs.declared.document.Doc.{Doc}
use Rattle.gq_edit.specs.declared.edit.DocumentEdit.{DocumentEdit}
use Rattle.gq_tree.specs.Readings.{ParsedOf}
use Rattle.gq_parse.specs.Parsed.{AreParsed}
use Rattle.gq_types.specs.Entries.{EntryOf}
use Rattle.gq_schema.specs.SchemaOf.{IsTypeSystemOf}
use Rattle.gq_rules.specs.Validity.{IsValid}
use Rattle.gq_rename.specs.declared.refusal.Refusal.{Refusal}
use Rattle.gq_rename.specs.declared.refusal.Refusal.TheVariants.{ProjectInvalid, NothingHere, BadName, SameName, NameTaken, DirectiveInWay, NoPossibleType, NotSiblings, NotRedundant, TooLarge, SelfCheck, NoMemory}
use Rattle.gq_rename.specs.Asks.{trees_of}
use Rattle.gq_rename.specs.Offers.{IsOffer}
use Rattle.gq_rename.specs.Rename.{IsTooLarge}
use Rattle.gq_reshape.specs.Asks.{RangeAsk}
use Rattle.gq_reshape.specs.Cuts.{Cut, edits_of, PassesCheck}
use Rattle.gq_reshape.specs.Extract.{Extraction, extract_cut, NothingToExtract, HasNoPossibleType, AreNoSiblings}
use Rattle.gq_reshape.specs.Inline.{Inlining, inline_cut, NothingToInline, IsDirectiveInWay}
use Rattle.gq_reshape.specs.Remove.{Removal, remove_cut, NothingToRemove, IsNotRedundant}

-- an edited text passes a limit; the edited texts do not read as the rewritten trees, or the edited project is not valid
abbrev pub PassesLimits : List Doc → Cut → Type 0
PassesLimits documents cut = IsTooLarge documents (edits_of cut documents)

abbrev pub FailsCheck : List Doc → List ParsedOf → Cut → Type 0
FailsCheck documents readings cut = PassesCheck documents (trees_of readings) cut → ⊥

-- the condition of each refusal
abbrev pub RefusesExtract : List Doc → List EntryOf → List ParsedOf → RangeAsk → Refusal → Type 0
RefusesExtract documents es readings ask ProjectInvalid = IsValid documents → ⊥
RefusesExtract documents es readings ask NothingHere = NothingToExtract documents es readings ask
RefusesExtract documents es readings ask BadName = ⊥
RefusesExtract documents es readings ask SameName = ⊥
RefusesExtract documents es readings ask NameTaken = ⊥
RefusesExtract documents es readings ask DirectiveInWay = ⊥
RefusesExtract documents es readings ask NoPossibleType = HasNoPossibleType documents es readings ask
RefusesExtract documents es readings ask NotSiblings = AreNoSiblings documents es readings ask
RefusesExtract documents es readings ask NotRedundant = ⊥
RefusesExtract documents es readings ask TooLarge = (e : Extraction documents es readings ask) × PassesLimits documents (extract_cut e)
RefusesExtract documents es readings ask SelfCheck = (e : Extraction documents es readings ask) × FailsCheck documents readings (extract_cut e)
RefusesExtract documents es readings ask NoMemory = ⊥

abbrev pub RefusesInline : List Doc → List EntryOf → List ParsedOf → RangeAsk → Refusal → Type 0
RefusesInline documents es readings ask ProjectInvalid = IsValid documents → ⊥
RefusesInline documents es readings ask NothingHere = NothingToInline documents es readings ask
RefusesInline documents es readings ask BadName = ⊥
RefusesInline documents es readings ask SameName = ⊥
RefusesInline documents es readings ask NameTaken = ⊥
RefusesInline documents es readings ask DirectiveInWay = IsDirectiveInWay documents es readings ask
RefusesInline documents es readings ask NoPossibleType = ⊥
RefusesInline documents es readings ask NotSiblings = ⊥
RefusesInline documents es readings ask NotRedundant = ⊥
RefusesInline documents es readings ask TooLarge = (i : Inlining documents es readings ask) × PassesLimits documents (inline_cut i)
RefusesInline documents es readings ask SelfCheck = (i : Inlining documents es readings ask) × FailsCheck documents readings (inline_cut i)
RefusesInline documents es readings ask NoMemory = ⊥

abbrev pub RefusesRemove : List Doc → List EntryOf → List ParsedOf → RangeAsk → Refusal → Type 0
RefusesRemove documents es readings ask ProjectInvalid = IsValid documents → ⊥
RefusesRemove documents es readings ask NothingHere = NothingToRemove documents es readings ask
RefusesRemove documents es readings ask BadName = ⊥
RefusesRemove documents es readings ask SameName = ⊥
RefusesRemove documents es readings ask NameTaken = ⊥
RefusesRemove documents es readings ask DirectiveInWay = ⊥
RefusesRemove documents es readings ask NoPossibleType = ⊥
RefusesRemove documents es readings ask NotSiblings = ⊥
RefusesRemove documents es readings ask NotRedundant = IsNotRedundant documents es readings ask
RefusesRemove documents es readings ask TooLarge = (r : Removal documents es readings ask) × PassesLimits documents (remove_cut r)
RefusesRemove documents es readings ask SelfCheck = (r : Removal documents es readings ask) × FailsCheck documents readings (remove_cut r)
RefusesRemove documents es readings ask NoMemory = ⊥

-- the exact edit, which passes the check
abbrev pub IsEdit : List Doc → List ParsedOf → Cut → List DocumentEdit → Type 0
IsEdit documents readings cut edits = (edits ≡ edits_of cut documents) × PassesCheck documents (trees_of readings) cut

abbrev pub IsExtractEdit : List Doc → List EntryOf → List ParsedOf → RangeAsk → List DocumentEdit → Type 0
IsExtractEdit documents es readings ask edits = (e : Extraction documents es readings ask) × IsEdit documents readings (extract_cut e) edits

abbrev pub IsInlineEdit : List Doc → List EntryOf → List ParsedOf → RangeAsk → List DocumentEdit → Type 0
IsInlineEdit documents es readings ask edits = (i : Inlining documents es readings ask) × IsEdit documents readings (inline_cut i) edits

abbrev pub IsRemoveEdit : List Doc → List EntryOf → List ParsedOf → RangeAsk → List DocumentEdit → Type 0
IsRemoveEdit documents es readings ask edits = (r : Removal documents es readings ask) × IsEdit documents readings (remove_cut r) edits

-- the answer to an ask about documents, by what refuses it and what its edit is
pub record IsAnswerBy (Refuses : List Doc → List EntryOf → List ParsedOf → RangeAsk → Refusal → Type 0) (IsEdit : List Doc → List EntryOf → List ParsedOf → RangeAsk → List DocumentEdit → Type 0) (documents : List Doc) (ask : RangeAsk) (result : Result (List DocumentEdit) Refusal) : Type 0 where
  pub readings : List ParsedOf
  pub are_readings : AreParsed documents readings
  pub types : List EntryOf
  pub is_type_system : IsTypeSystemOf documents types
  pub offer : IsOffer (Refuses documents types readings ask) (IsEdit documents types readings ask) result

abbrev pub IsExtractAnswer : List Doc → RangeAsk → Result (List DocumentEdit) Refusal → Type 0
IsExtractAnswer = IsAnswerBy RefusesExtract IsExtractEdit

abbrev pub IsInlineAnswer : List Doc → RangeAsk → Result (List DocumentEdit) Refusal → Type 0
IsInlineAnswer = IsAnswerBy RefusesInline IsInlineEdit

abbrev pub IsRemoveAnswer : List Doc → RangeAsk → Result (List DocumentEdit) Refusal → Type 0
IsRemoveAnswer = IsAnswerBy RefusesRemove IsRemoveEdit

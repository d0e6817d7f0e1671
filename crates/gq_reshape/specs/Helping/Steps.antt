-- What the steps to an answer say.
use Rattle.std.specs.Prelude.{◌≡◌, ◌⊎◌, Bool, true, false, List, Option, Some, None, Result, Err}
use Rattle.gq_project.specs.declared.document.Doc.{Doc}
use Rattle.gq_edit.specs.declared.edit.DocumentEdit.{DocumentEdit}
use Rattle.gq_tree.specs.Readings.{ParsedOf, readings_view}
use Rattle.gq_types.specs.Entries.{Text, EntryOf}
use Rattle.gq_types.specs.Look.{types_view}
use Rattle.gq_document.specs.Sets.{SetOf}
use Rattle.gq_rename.specs.declared.refusal.Refusal.{Refusal}
use Rattle.gq_rename.specs.declared.refusal.Refusal.TheVariants.{NothingHere, NoPossibleType, NotSiblings, NoMemory}
use Rattle.gq_rename.specs.Offers.{IsOffer}
use Rattle.gq_reshape.specs.Asks.{RangeAsk}
use Rattle.gq_reshape.specs.Extract.{HasNoObject}
use Rattle.gq_reshape.specs.Reshape.{RefusesExtract, IsExtractEdit, RefusesInline, IsInlineEdit, RefusesRemove, IsRemoveEdit, IsAnswerBy}
use Rattle.gq_reshape.specs.declared.asked.Asked.{Asked}
use Rattle.gq_reshape.specs.declared.reshaping.Reshaping.{Reshaping}
use Rattle.gq_reshape.specs.declared.reshaping.Reshaping.TheVariants.{Extract, Inline, Remove}
use Rattle.gq_reshape.specs.Helping.About.{ask_of}

-- the answers over one reading of the documents, or want of memory
abbrev pub ExtractOffer : List Doc → List EntryOf → List ParsedOf → RangeAsk → Result (List DocumentEdit) Refusal → Type 0
ExtractOffer documents es readings ask result = (result ≡ Err NoMemory) ⊎ IsOffer (RefusesExtract documents es readings ask) (IsExtractEdit documents es readings ask) result

abbrev pub InlineOffer : List Doc → List EntryOf → List ParsedOf → RangeAsk → Result (List DocumentEdit) Refusal → Type 0
InlineOffer documents es readings ask result = (result ≡ Err NoMemory) ⊎ IsOffer (RefusesInline documents es readings ask) (IsInlineEdit documents es readings ask) result

abbrev pub RemoveOffer : List Doc → List EntryOf → List ParsedOf → RangeAsk → Result (List DocumentEdit) Refusal → Type 0
RemoveOffer documents es readings ask result = (result ≡ Err NoMemory) ⊎ IsOffer (RefusesRemove documents es readings ask) (IsRemoveEdit documents es readings ask) result

-- the same by the refactoring
abbrev pub RefusesTo : Reshaping → List Doc → List EntryOf → List ParsedOf → RangeAsk → Refusal → Type 0
RefusesTo Extract = RefusesExtract
RefusesTo Inline = RefusesInline
RefusesTo Remove = RefusesRemove

abbrev pub IsEditTo : Reshaping → List Doc → List EntryOf → List ParsedOf → RangeAsk → List DocumentEdit → Type 0
IsEditTo Extract = IsExtractEdit
IsEditTo Inline = IsInlineEdit
IsEditTo Remove = IsRemoveEdit

abbrev pub IsAnswerTo : Reshaping → List Doc → RangeAsk → Result (List DocumentEdit) Refusal → Type 0
IsAnswerTo r = IsAnswerBy (RefusesTo r) (IsEditTo r)

abbrev pub IsOfferOver : Reshaping → List Doc → List EntryOf → List ParsedOf → RangeAsk → Result (List DocumentEdit) Refusal → Type 0
IsOfferOver r documents es readings ask result = (result ≡ Err NoMemory) ⊎ IsOffer (RefusesTo r documents es readings ask) (IsEditTo r documents es readings ask) result

-- the answer to what is asked
abbrev pub IsOffered : Reshaping → Asked → Result (List DocumentEdit) Refusal → Type 0
IsOffered r asked result = IsOfferOver r asked.valid.now (types_view asked.known.types.now) (readings_view asked.known.readings.now) (ask_of asked) result

-- whether an object type is possible for the type of that name
abbrev pub HasObject : List EntryOf → Text → Bool → Type 0
HasObject es type_name true = HasNoObject es (Some type_name) → ⊥
HasObject es type_name false = HasNoObject es (Some type_name)

-- the parent, where an object type is possible for it
abbrev pub IsPossibleParent : List EntryOf → (parent found : Option Text) → Type 0
IsPossibleParent es parent None = HasNoObject es parent
IsPossibleParent es parent (Some on) = (parent ≡ Some on) × (HasNoObject es parent → ⊥)

-- why nothing is extracted, where there is no run
abbrev pub IsNoRun : List EntryOf → Option SetOf → Refusal → Type 0
IsNoRun es None why = why ≡ NothingHere
IsNoRun es (Some set) why = ((why ≡ NotSiblings) × (HasNoObject es set.parent → ⊥)) ⊎ ((why ≡ NoPossibleType) × HasNoObject es set.parent)

-- What comes of the checks of an edit.
use Rattle.std.specs.Prelude.{◌≡◌, List, find, Some, None, Result, Ok, Err}
use Rattle.gq_project.specs.declared.document.Doc.{Doc}
use Rattle.gq_edit.specs.declared.edit.DocumentEdit.{DocumentEdit}
use Rattle.gq_edit.specs.Edits.{after_edit, is_too_large}
use Rattle.gq_rules.specs.Validity.{IsValid}
use Rattle.gq_rename.specs.declared.refusal.Refusal.{Refusal}
use Rattle.gq_rename.specs.declared.refusal.Refusal.TheVariants.{ProjectInvalid, NothingHere, BadName, SameName, NameTaken, DirectiveInWay, NoPossibleType, NotSiblings, NotRedundant, TooLarge, SelfCheck, NoMemory}

-- whether each edited text has at most 4 MiB, where the edited project is valid
abbrev pub IsMeasured : List Doc → List DocumentEdit → Result (List DocumentEdit) Refusal → Type 0
IsMeasured documents edits (Ok made) = (made ≡ edits) × (find (is_too_large documents) edits ≡ None) × ∥ IsValid (after_edit edits documents) ∥₁
IsMeasured documents edits (Err ProjectInvalid) = ⊥
IsMeasured documents edits (Err NothingHere) = ⊥
IsMeasured documents edits (Err BadName) = ⊥
IsMeasured documents edits (Err SameName) = ⊥
IsMeasured documents edits (Err NameTaken) = ⊥
IsMeasured documents edits (Err DirectiveInWay) = ⊥
IsMeasured documents edits (Err NoPossibleType) = ⊥
IsMeasured documents edits (Err NotSiblings) = ⊥
IsMeasured documents edits (Err NotRedundant) = ⊥
IsMeasured documents edits (Err TooLarge) = (edit : DocumentEdit) × (find (is_too_large documents) edits ≡ Some edit)
IsMeasured documents edits (Err SelfCheck) = ⊥
IsMeasured documents edits (Err NoMemory) = Unit {0}

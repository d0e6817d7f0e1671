-- Whether the texts that an edit leaves pass a limit.
use Rattle.std.specs.Prelude.{◌≡◌, Bool, true, false, List, Some, Contains, Result, Ok, Err}
use Rattle.std.specs.List.{AllByRecursion}
use Rattle.gq_project.specs.declared.document.Doc.{Doc}
use Rattle.gq_edit.specs.declared.edit.DocumentEdit.{DocumentEdit}
use Rattle.gq_edit.specs.Edits.{document_of, edited_text}
use Rattle.gq_rename.specs.declared.refusal.Refusal.{Refusal}
use Rattle.gq_rename.specs.declared.refusal.Refusal.TheVariants.{ProjectInvalid, NothingHere, BadName, SameName, NameTaken, DirectiveInWay, NoPossibleType, NotSiblings, NotRedundant, TooLarge, SelfCheck, NoMemory}
use Rattle.gq_rename.specs.Rename.{IsTooLarge}
use Rattle.gq_reshape.specs.Helping.Limits.{PassesSomeLimit}

-- the text after a document edit has too many tokens, or they nest too deep
abbrev pub TextPasses : List Doc → DocumentEdit → Type 0
TextPasses documents edit = (document : Doc) × (document_of documents edit ≡ Some document) × PassesSomeLimit (edited_text edit document)

-- whether one does
abbrev pub OnePasses : List Doc → List DocumentEdit → Bool → Type 0
OnePasses documents edits true = (edit : DocumentEdit) × Contains edits edit × TextPasses documents edit
OnePasses documents edits false = AllByRecursion (λ edit. TextPasses documents edit → ⊥) edits

-- whether one passes a limit, of bytes too
abbrev pub ArePassed : List Doc → List DocumentEdit → Bool → Type 0
ArePassed documents edits true = IsTooLarge documents edits
ArePassed documents edits false = IsTooLarge documents edits → ⊥

-- the edit, where none does
abbrev pub IsLimited : List Doc → List DocumentEdit → Result (List DocumentEdit) Refusal → Type 0
IsLimited documents edits (Ok made) = (made ≡ edits) × (IsTooLarge documents edits → ⊥)
IsLimited documents edits (Err ProjectInvalid) = ⊥
IsLimited documents edits (Err NothingHere) = ⊥
IsLimited documents edits (Err BadName) = ⊥
IsLimited documents edits (Err SameName) = ⊥
IsLimited documents edits (Err NameTaken) = ⊥
IsLimited documents edits (Err DirectiveInWay) = ⊥
IsLimited documents edits (Err NoPossibleType) = ⊥
IsLimited documents edits (Err NotSiblings) = ⊥
IsLimited documents edits (Err NotRedundant) = ⊥
IsLimited documents edits (Err TooLarge) = IsTooLarge documents edits
IsLimited documents edits (Err SelfCheck) = ⊥
IsLimited documents edits (Err NoMemory) = Unit {0}

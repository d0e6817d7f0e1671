-- What comes of the checks of an edit.
use Rattle.std.specs.Prelude.{◌≡◌, ℕ, false, List, [], Result, Ok, Err}
use Rattle.gq_project.specs.declared.document.Doc.{Doc}
use Rattle.gq_edit.specs.declared.edit.DocumentEdit.{DocumentEdit}
use Rattle.gq_tree.specs.Readings.{ParsedOf}
use Rattle.gq_rename.specs.declared.refusal.Refusal.{Refusal}
use Rattle.gq_rename.specs.declared.refusal.Refusal.TheVariants.{ProjectInvalid, NothingHere, BadName, SameName, NameTaken, DirectiveInWay, NoPossibleType, NotSiblings, NotRedundant, TooLarge, SelfCheck, NoMemory}
use Rattle.gq_rename.specs.Asks.{trees_of}
use Rattle.gq_rename.specs.Rename.{IsTooLarge}
use Rattle.gq_reshape.specs.Placed.{replacements_in}
use Rattle.gq_reshape.specs.Helping.Rereading.{is_edited}
use Rattle.gq_reshape.specs.Cuts.{Cut, edits_of, PassesCheck}

-- whether an edited text passes a limit, whether all read as they should, and whether the edited project is valid
abbrev pub IsJudged : List Doc → List ParsedOf → Cut → Result (List DocumentEdit) Refusal → Type 0
IsJudged documents readings cut (Ok made) =
    (made ≡ edits_of cut documents) × (IsTooLarge documents (edits_of cut documents) → ⊥) × PassesCheck documents (trees_of readings) cut
IsJudged documents readings cut (Err ProjectInvalid) = ⊥
IsJudged documents readings cut (Err NothingHere) = ⊥
IsJudged documents readings cut (Err BadName) = ⊥
IsJudged documents readings cut (Err SameName) = ⊥
IsJudged documents readings cut (Err NameTaken) = ⊥
IsJudged documents readings cut (Err DirectiveInWay) = ⊥
IsJudged documents readings cut (Err NoPossibleType) = ⊥
IsJudged documents readings cut (Err NotSiblings) = ⊥
IsJudged documents readings cut (Err NotRedundant) = ⊥
IsJudged documents readings cut (Err TooLarge) = IsTooLarge documents (edits_of cut documents)
IsJudged documents readings cut (Err SelfCheck) = (IsTooLarge documents (edits_of cut documents) → ⊥) × (PassesCheck documents (trees_of readings) cut → ⊥)
IsJudged documents readings cut (Err NoMemory) = Unit {0}

-- nothing is replaced in documents in which nothing may change
abbrev pub IsQuiet : Cut → Type 0
IsQuiet cut = (file : ℕ) → is_edited cut.rewrite file ≡ false → replacements_in cut.replacements file ≡ []

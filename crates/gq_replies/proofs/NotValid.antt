-- In a project that is not valid every rename and every refactoring is refused as that.
use Rattle.std.proofs.Common.{◌≡◌, ◌<◌, ◌++◌, ℕ, List, Err, arith, refl}
use Rattle.gq_project.specs.declared.document.Doc.{Doc}
use Rattle.gq_edit.specs.declared.edit.DocumentEdit.{DocumentEdit}
use Rattle.gq_tree.specs.Readings.{ParsedOf}
use Rattle.gq_parse.specs.Parsed.{AreParsed}
use Rattle.gq_types.specs.Entries.{EntryOf}
use Rattle.gq_types.specs.BuiltIn.{built_in}
use Rattle.gq_document.specs.Definitions.{entries_of}
use Rattle.gq_rules.specs.Validity.{IsValid}
use Rattle.gq_rename.specs.declared.refusal.Refusal.{Refusal}
use Rattle.gq_rename.specs.declared.refusal.Refusal.TheVariants.{ProjectInvalid, NothingHere, BadName, SameName, NameTaken, DirectiveInWay, NoPossibleType, NotSiblings, NotRedundant, TooLarge, SelfCheck, NoMemory}
use Rattle.gq_rename.specs.Refusals.{number_of}
use Rattle.gq_rename.specs.Rename.{IsRenameAnswer}
use Rattle.gq_reshape.specs.Asks.{RangeAsk}
use Rattle.gq_reshape.specs.Reshape.{IsAnswerBy}

-- no refusal comes before it
none_lesser : (why : Refusal) → number_of why < 1 → ⊥
none_lesser ProjectInvalid less = omega (arith, less)
none_lesser NothingHere less = omega (arith, less)
none_lesser BadName less = omega (arith, less)
none_lesser SameName less = omega (arith, less)
none_lesser NameTaken less = omega (arith, less)
none_lesser DirectiveInWay less = omega (arith, less)
none_lesser NoPossibleType less = omega (arith, less)
none_lesser NotSiblings less = omega (arith, less)
none_lesser NotRedundant less = omega (arith, less)
none_lesser TooLarge less = omega (arith, less)
none_lesser SelfCheck less = omega (arith, less)
none_lesser NoMemory less = omega (arith, less)

module _ (documents : List Doc) (readings : List ParsedOf) (are_readings : AreParsed documents readings) (not_valid : IsValid documents → ⊥) where
  pub refused_rename : (key : List ℕ) (offset : ℕ) (new : List ℕ) → IsRenameAnswer documents key offset new (Err ProjectInvalid)
  refused_rename key offset new = record { readings = readings; are_readings = are_readings; offer = (not_valid, λ earlier less h. none_lesser earlier less) }

  -- a refactoring that is refused as that where the project is not valid
  pub refused_reshape : (Refuses : List Doc → List EntryOf → List ParsedOf → RangeAsk → Refusal → Type 0) (IsEdit : List Doc → List EntryOf → List ParsedOf → RangeAsk → List DocumentEdit → Type 0) (ask : RangeAsk)
      → ((es : List EntryOf) → (IsValid documents → ⊥) → Refuses documents es readings ask ProjectInvalid) → IsAnswerBy Refuses IsEdit documents ask (Err ProjectInvalid)
  refused_reshape Refuses IsEdit ask holds = record {
    readings = readings;
    are_readings = are_readings;
    types = built_in ++ entries_of readings;
    is_type_system = record { readings = readings; are_readings = are_readings; is = refl };
    offer = (holds (built_in ++ entries_of readings) not_valid, λ earlier less h. none_lesser earlier less);
  }

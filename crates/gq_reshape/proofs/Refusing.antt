-- In a project that is not valid every refactoring is refused as that.
use Rattle.std.proofs.Common.{◌<◌, ◌++◌, List, Err, arith, refl}
use Rattle.gq_project.specs.declared.document.Doc.{Doc}
use Rattle.gq_edit.specs.declared.edit.DocumentEdit.{DocumentEdit}
use Rattle.gq_tree.specs.Readings.{ParsedOf}
use Rattle.gq_types.specs.Entries.{EntryOf}
use Rattle.gq_types.specs.BuiltIn.{built_in}
use Rattle.gq_document.specs.Definitions.{entries_of}
use Rattle.gq_rules.specs.Validity.{IsInvalid}
use Rattle.gq_rename.specs.declared.refusal.Refusal.{Refusal}
use Rattle.gq_rename.specs.declared.refusal.Refusal.TheVariants.{ProjectInvalid, NothingHere, BadName, SameName, NameTaken, DirectiveInWay, NoPossibleType, NotSiblings, NotRedundant, TooLarge, SelfCheck, NoMemory}
use Rattle.gq_rename.specs.Refusals.{number_of}
use Rattle.gq_reshape.specs.Asks.{RangeAsk}
use Rattle.gq_reshape.specs.Reshape.{IsAnswerBy}

-- no refusal comes before it
none_lesser : (why : Refusal) → number_of why < 1 → ⊥
none_lesser ProjectInvalid less = omega (arith, less)
none_lesser NothingHere less = omega (arith, less)
none_lesser BadName less = omega (arith, less)
none_lesser SameName less = omega (arith, less)
none_lesser NameTaken less = omega (arith, less)
none_lesser DirectiveInWay less = omega (arith, less)
none_lesser NoPossibleType less = omega (arith, less)
none_lesser NotSiblings less = omega (arith, less)
none_lesser NotRedundant less = omega (arith, less)
none_lesser TooLarge less = omega (arith, less)
none_lesser SelfCheck less = omega (arith, less)
none_lesser NoMemory less = omega (arith, less)

-- an answer by any conditions under which its own holds
pub refused : (Refuses : List Doc → List EntryOf → List ParsedOf → RangeAsk → Refusal → Type 0) (IsEdit : List Doc → List EntryOf → List ParsedOf → RangeAsk → List DocumentEdit → Type 0) (documents : List Doc) (ask : RangeAsk)
    → IsInvalid documents → ((es : List EntryOf) (readings : List ParsedOf) → Refuses documents es readings ask ProjectInvalid) → IsAnswerBy Refuses IsEdit documents ask (Err ProjectInvalid)
refused Refuses IsEdit documents ask invalid holds = record {
  readings = invalid.readings;
  are_readings = invalid.are_readings;
  types = built_in ++ entries_of invalid.readings;
  is_type_system = record { readings = invalid.readings; are_readings = invalid.are_readings; is = refl };
  offer = (holds (built_in ++ entries_of invalid.readings) invalid.readings, λ earlier less h. none_lesser earlier less);
}

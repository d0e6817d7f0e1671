use Rattle.std.proofs.Common.{◌<◌, List, arith}
use Rattle.gq_project.specs.declared.document.Doc.{Doc}
use Rattle.gq_tree.specs.Readings.{ParsedOf}
use Rattle.gq_rename.specs.declared.refusal.Refusal.{Refusal}
use Rattle.gq_rename.specs.declared.refusal.Refusal.TheVariants.{ProjectInvalid, NothingHere, BadName, SameName, NameTaken, DirectiveInWay, NoPossibleType, NotSiblings, NotRedundant, TooLarge, SelfCheck, NoMemory}
use Rattle.gq_rename.specs.Refusals.{number_of}
use Rattle.gq_rename.specs.Asks.{RenameAsk}
use Rattle.gq_rename.specs.Rename.{Refuses}
use Rattle.gq_rename.proofs.laws.renames_of_invalid_projects_are_refused.Goals as goal

none_earlier : (documents : List Doc) (readings : List ParsedOf) (ask : RenameAsk) (why : Refusal) → number_of why < 1 → Refuses documents readings ask why → ⊥
none_earlier documents readings ask ProjectInvalid less h = omega (arith, less)
none_earlier documents readings ask NothingHere less h = omega (arith, less)
none_earlier documents readings ask BadName less h = omega (arith, less)
none_earlier documents readings ask SameName less h = omega (arith, less)
none_earlier documents readings ask NameTaken less h = omega (arith, less)
none_earlier documents readings ask DirectiveInWay less h = omega (arith, less)
none_earlier documents readings ask NoPossibleType less h = omega (arith, less)
none_earlier documents readings ask NotSiblings less h = omega (arith, less)
none_earlier documents readings ask NotRedundant less h = omega (arith, less)
none_earlier documents readings ask TooLarge less h = omega (arith, less)
none_earlier documents readings ask SelfCheck less h = omega (arith, less)
none_earlier documents readings ask NoMemory less h = omega (arith, less)

pub returns : goal.returns
returns c = λ documents key offset new invalid.
    record {
      readings = invalid.readings;
      are_readings = invalid.are_readings;
      offer = ((λ valid. c.no_project_is_valid_and_invalid.ensures documents valid invalid), none_earlier documents invalid.readings (record { key = key; offset = offset; new = new }));
    }

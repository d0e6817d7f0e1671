use Rattle.gq_rename.proofs.SomeOffer.{renames_are_there}
use Rattle.gq_rename.proofs.laws.renames_are_there.Goals as goal

pub returns : goal.returns
returns c = renames_are_there

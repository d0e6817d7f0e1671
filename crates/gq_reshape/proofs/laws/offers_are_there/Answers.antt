use Rattle.gq_reshape.proofs.SomeAnswer.{offers_are_there}
use Rattle.gq_reshape.proofs.laws.offers_are_there.Goals as goal

pub returns : goal.returns
returns c = offers_are_there c.renames_are_there.ensures

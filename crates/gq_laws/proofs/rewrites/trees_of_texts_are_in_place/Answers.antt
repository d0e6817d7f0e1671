use Rattle.gq_laws.proofs.Rewriting.InPlace.{trees_are_in_place}
use Rattle.gq_laws.proofs.rewrites.trees_of_texts_are_in_place.Goals as goal

pub returns : goal.returns
returns c = trees_are_in_place

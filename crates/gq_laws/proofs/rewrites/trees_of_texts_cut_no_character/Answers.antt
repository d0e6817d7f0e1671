use Rattle.gq_laws.proofs.Rewriting.Cuts.{trees_cut_no_character}
use Rattle.gq_laws.proofs.rewrites.trees_of_texts_cut_no_character.Goals as goal

pub returns : goal.returns
returns c = trees_cut_no_character

use Rattle.gq_parse.proofs.Places.{covered_from}
use Rattle.gq_parse.proofs.phrases.covered.Goals as goal

pub returns : goal.returns
returns c = covered_from _ _ _ _ c.requires.0 c.requires.1

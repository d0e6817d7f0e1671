use Rattle.gq_laws.proofs.Rewriting.ValidityLemmas.{stand_in_braces}
use Rattle.gq_laws.proofs.types.selections_stand_in_braces.Goals as goal

pub returns : goal.returns
returns c = stand_in_braces

use Rattle.gq_completion.proofs.InnermostLemmas.{encloses_alone}
use Rattle.gq_completion.proofs.laws.innermost_encloses_alone.Goals as goal

pub returns : goal.returns
returns c = encloses_alone

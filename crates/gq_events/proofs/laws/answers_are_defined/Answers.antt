use Rattle.gq_events.proofs.Firsts.{answers_are_defined}
use Rattle.gq_events.proofs.laws.answers_are_defined.Goals as goal

pub returns : goal.returns
returns c = answers_are_defined

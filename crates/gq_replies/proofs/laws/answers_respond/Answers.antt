use Rattle.gq_replies.proofs.Responding.{responds}
use Rattle.gq_replies.proofs.laws.answers_respond.Goals as goal

pub returns : goal.returns
returns c = responds

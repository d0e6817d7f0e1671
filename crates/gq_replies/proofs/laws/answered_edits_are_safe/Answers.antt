use Rattle.gq_replies.proofs.Safe.{answered_edits_are_safe}
use Rattle.gq_replies.proofs.laws.answered_edits_are_safe.Goals as goal

pub returns : goal.returns
returns c = answered_edits_are_safe

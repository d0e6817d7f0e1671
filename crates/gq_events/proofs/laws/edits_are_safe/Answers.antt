use Rattle.gq_events.proofs.Headline.{edits_are_safe}
use Rattle.gq_events.proofs.laws.edits_are_safe.Goals as goal

pub returns : goal.returns
returns c = edits_are_safe c.answered_edits_are_safe.ensures

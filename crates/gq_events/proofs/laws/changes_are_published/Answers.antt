use Rattle.gq_events.proofs.Publishing.{changes_are_published}
use Rattle.gq_events.proofs.laws.changes_are_published.Goals as goal

pub returns : goal.returns
returns c = changes_are_published

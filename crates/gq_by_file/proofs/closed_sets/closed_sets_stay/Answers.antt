use Rattle.gq_by_file.proofs.Closed.Replaced.{closed_stays}
use Rattle.gq_by_file.proofs.closed_sets.closed_sets_stay.Goals as goal

pub returns : goal.returns
returns c = closed_stays

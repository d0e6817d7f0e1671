use Rattle.gq_by_file.proofs.Closed.Inserted.{sets_move_back}
use Rattle.gq_by_file.proofs.closed_sets.closed_sets_move_back.Goals as goal

pub returns : goal.returns
returns c = sets_move_back

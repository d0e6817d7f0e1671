use Rattle.gq_by_file.proofs.Closed.Inserted.{sets_move}
use Rattle.gq_by_file.proofs.closed_sets.closed_sets_move.Goals as goal

pub returns : goal.returns
returns c = sets_move

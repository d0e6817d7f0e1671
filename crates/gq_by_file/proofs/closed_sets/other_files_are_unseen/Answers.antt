use Rattle.gq_by_file.proofs.Closed.Replaced.{others_unseen}
use Rattle.gq_by_file.proofs.closed_sets.other_files_are_unseen.Goals as goal

pub returns : goal.returns
returns c = others_unseen

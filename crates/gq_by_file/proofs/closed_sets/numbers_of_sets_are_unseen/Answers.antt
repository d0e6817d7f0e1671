use Rattle.gq_by_file.proofs.Closed.Inserted.{numbers_unseen}
use Rattle.gq_by_file.proofs.closed_sets.numbers_of_sets_are_unseen.Goals as goal

pub returns : goal.returns
returns c = numbers_unseen

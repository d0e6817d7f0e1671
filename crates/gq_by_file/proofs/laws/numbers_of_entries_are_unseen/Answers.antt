use Rattle.gq_by_file.proofs.OneFile.Stay.{unseen_entries}
use Rattle.gq_by_file.proofs.laws.numbers_of_entries_are_unseen.Goals as goal

pub returns : goal.returns
returns c = unseen_entries

use Rattle.gq_by_file.proofs.OneFile.First.{of_their_file}
use Rattle.gq_by_file.proofs.laws.unread_and_mixed_are_of_their_file.Goals as goal

pub returns : goal.returns
returns c = of_their_file

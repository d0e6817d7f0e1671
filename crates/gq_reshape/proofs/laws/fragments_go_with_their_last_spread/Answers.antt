use Rattle.gq_reshape.proofs.LastSpreads.{goes_exactly_alone, goes_with_the_last}
use Rattle.gq_reshape.proofs.laws.fragments_go_with_their_last_spread.Goals as goal

pub returns-clause-alone : goal.returns-clause-alone
returns-clause-alone c = goes_exactly_alone

pub returns-clause-no_other : goal.returns-clause-no_other
returns-clause-no_other c = goes_with_the_last

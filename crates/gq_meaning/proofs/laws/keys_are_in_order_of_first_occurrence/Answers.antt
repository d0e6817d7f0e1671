use Rattle.gq_meaning.proofs.KeyOrderLemmas.{keys_are_in_order}
use Rattle.gq_meaning.proofs.laws.keys_are_in_order_of_first_occurrence.Goals as goal

pub returns : goal.returns
returns c = keys_are_in_order

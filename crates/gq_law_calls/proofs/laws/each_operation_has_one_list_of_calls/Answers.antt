use Rattle.gq_law_calls.proofs.OneList.{one_list_of_calls}
use Rattle.gq_law_calls.proofs.laws.each_operation_has_one_list_of_calls.Goals as goal

pub returns : goal.returns
returns c = one_list_of_calls c.one_tree.ensures c.requests_have_a_response.ensures

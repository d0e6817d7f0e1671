use Rattle.gq_law_calls.proofs.Restated.{restated_keep_calls}
use Rattle.gq_law_calls.proofs.laws.restated_projects_keep_calls.Goals as goal

pub returns : goal.returns
returns c = restated_keep_calls c.fragments_can_be_ranked.ensures c.objects_have_subtypes.ensures c.names_agree_in_valid_projects.ensures c.requests_have_a_response.ensures

use Rattle.gq_laws.proofs.Rewriting.Restated.{restated_keep}
use Rattle.gq_laws.proofs.responses.restated_projects_keep_responses.Goals as goal

pub returns : goal.returns
returns c = restated_keep c.fragments_can_be_ranked.ensures c.objects_have_subtypes.ensures c.names_agree_in_valid_projects.ensures c.requests_have_a_response.ensures c.requests_have_one_response.ensures

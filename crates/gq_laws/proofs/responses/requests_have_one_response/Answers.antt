use Rattle.gq_laws.proofs.Rewriting.OneResponse.{requests_have_one}
use Rattle.gq_laws.proofs.responses.requests_have_one_response.Goals as goal

pub returns : goal.returns
returns c = requests_have_one c.one_tree.ensures c.responses_are_determined.ensures

use Rattle.gq_laws.proofs.Rewriting.Answerable.{requests_have}
use Rattle.gq_laws.proofs.responses.requests_have_a_response.Goals as goal

pub returns : goal.returns
returns c = requests_have c.fragments_can_be_ranked.ensures

use Rattle.gq_laws.proofs.Rewriting.Valid.{fragments_are_ranked}
use Rattle.gq_laws.proofs.validity.fragments_can_be_ranked.Goals as goal

pub returns : goal.returns
returns c = fragments_are_ranked c.no_project_is_valid_and_invalid.ensures

use Rattle.gq_laws.proofs.Rewriting.ValidityLemmas.{operations_have}
use Rattle.gq_laws.proofs.types.operations_have_roots.Goals as goal

pub returns : goal.returns
returns c = operations_have c.no_project_is_valid_and_invalid.ensures

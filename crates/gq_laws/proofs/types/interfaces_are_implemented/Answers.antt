use Rattle.gq_laws.proofs.Rewriting.ValidityLemmas.{interfaces_implemented}
use Rattle.gq_laws.proofs.types.interfaces_are_implemented.Goals as goal

pub returns : goal.returns
returns c = interfaces_implemented c.no_project_is_valid_and_invalid.ensures

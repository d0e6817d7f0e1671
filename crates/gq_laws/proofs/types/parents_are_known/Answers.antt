use Rattle.gq_laws.proofs.Rewriting.ValidityLemmas.{parents_known}
use Rattle.gq_laws.proofs.types.parents_are_known.Goals as goal

pub returns : goal.returns
returns c = parents_known c.no_project_is_valid_and_invalid.ensures

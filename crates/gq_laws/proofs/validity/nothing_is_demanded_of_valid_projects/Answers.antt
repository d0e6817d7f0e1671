use Rattle.gq_laws.proofs.Rewriting.Valid.{nothing_demanded}
use Rattle.gq_laws.proofs.validity.nothing_is_demanded_of_valid_projects.Goals as goal

pub returns : goal.returns
returns c = nothing_demanded c.no_project_is_valid_and_invalid.ensures

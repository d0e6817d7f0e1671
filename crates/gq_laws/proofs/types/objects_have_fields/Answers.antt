use Rattle.gq_laws.proofs.Rewriting.ValidityLemmas.{objects_have}
use Rattle.gq_laws.proofs.types.objects_have_fields.Goals as goal

pub returns : goal.returns
returns c = objects_have c.no_project_is_valid_and_invalid.ensures

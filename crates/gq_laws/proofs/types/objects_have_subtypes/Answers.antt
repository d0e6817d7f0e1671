use Rattle.gq_laws.proofs.Rewriting.ValidityLemmas.{objects_have_subtypes_of}
use Rattle.gq_laws.proofs.types.objects_have_subtypes.Goals as goal

pub returns : goal.returns
returns c = objects_have_subtypes_of c.no_project_is_valid_and_invalid.ensures

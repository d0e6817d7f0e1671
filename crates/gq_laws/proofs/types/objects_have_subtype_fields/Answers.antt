use Rattle.gq_laws.proofs.Rewriting.ValidityLemmas.{objects_have_subtype_fields_of}
use Rattle.gq_laws.proofs.types.objects_have_subtype_fields.Goals as goal

pub returns : goal.returns
returns c = objects_have_subtype_fields_of c.no_project_is_valid_and_invalid.ensures

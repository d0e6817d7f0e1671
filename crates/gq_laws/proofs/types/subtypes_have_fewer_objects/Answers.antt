use Rattle.gq_laws.proofs.Rewriting.ValidityLemmas.{subtypes_have_fewer}
use Rattle.gq_laws.proofs.types.subtypes_have_fewer_objects.Goals as goal

pub returns : goal.returns
returns c = subtypes_have_fewer c.no_project_is_valid_and_invalid.ensures

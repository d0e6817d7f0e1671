use Rattle.gq_laws.proofs.Rewriting.ValidityLemmas.{fields_defined}
use Rattle.gq_laws.proofs.types.fields_are_defined.Goals as goal

pub returns : goal.returns
returns c = fields_defined c.no_project_is_valid_and_invalid.ensures

use Rattle.gq_laws.proofs.Placing.TypeRules.{documents_of_types_do_not_matter_to_types}
use Rattle.gq_laws.proofs.places.documents_of_types_do_not_matter_to_types.Goals as goal

pub returns : goal.returns
returns c = documents_of_types_do_not_matter_to_types

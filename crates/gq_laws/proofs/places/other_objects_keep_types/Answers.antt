use Rattle.gq_laws.proofs.Placing.ObjectRules.{other_objects_keep_types}
use Rattle.gq_laws.proofs.places.other_objects_keep_types.Goals as goal

pub returns : goal.returns
returns c = other_objects_keep_types

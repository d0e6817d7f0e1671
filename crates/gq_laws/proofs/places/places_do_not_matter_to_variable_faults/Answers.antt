use Rattle.gq_laws.proofs.Placing.VariablePlaces.{variables_alike}
use Rattle.gq_laws.proofs.places.places_do_not_matter_to_variable_faults.Goals as goal

pub returns : goal.returns
returns c = variables_alike

use Rattle.gq_laws.proofs.Placing.OtherFields.{types_look_alike_but}
use Rattle.gq_laws.proofs.places.types_look_alike_but.Goals as goal

pub returns : goal.returns
returns c = types_look_alike_but

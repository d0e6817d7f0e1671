use Rattle.gq_laws.proofs.Placing.Entries.{types_look_alike}
use Rattle.gq_laws.proofs.places.types_look_alike.Goals as goal

pub returns : goal.returns
returns c = types_look_alike

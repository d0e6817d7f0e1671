use Rattle.gq_laws.proofs.Placing.SpreadPlaces.{spreads_alike}
use Rattle.gq_laws.proofs.places.places_do_not_matter_to_spread_faults.Goals as goal

pub returns : goal.returns
returns c = spreads_alike

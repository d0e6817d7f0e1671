use Rattle.gq_laws.proofs.Placing.Renames.{variable_renames_keep}
use Rattle.gq_laws.proofs.Placing.SpreadPlaces.{variable_renames_keep_spreads}
use Rattle.gq_laws.proofs.places.variable_renames_keep_what_is_faultless.Goals as goal

pub returns : goal.returns
returns c = record { fragments = variable_renames_keep; spreads = variable_renames_keep_spreads }

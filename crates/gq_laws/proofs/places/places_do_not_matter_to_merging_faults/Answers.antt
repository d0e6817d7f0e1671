use Rattle.gq_laws.proofs.Placing.MergingFields.{merging_alike}
use Rattle.gq_laws.proofs.places.places_do_not_matter_to_merging_faults.Goals as goal

pub returns : goal.returns
returns c = merging_alike

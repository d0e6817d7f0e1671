use Rattle.gq_laws.proofs.Placing.MergingKept.{kept_fields_merge}
use Rattle.gq_laws.proofs.places.fields_that_are_kept_merge.Goals as goal

pub returns : goal.returns
returns c = kept_fields_merge

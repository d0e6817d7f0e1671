use Rattle.gq_laws.proofs.Merging.Edits.{inlined_fields_merge}
use Rattle.gq_laws.proofs.merging_kept.inlined_fields_merge.Goals as goal

pub returns : goal.returns
returns c = inlined_fields_merge

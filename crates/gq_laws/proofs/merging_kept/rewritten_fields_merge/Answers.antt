use Rattle.gq_laws.proofs.Merging.Rewritten.{rewritten_fields_merge}
use Rattle.gq_laws.proofs.merging_kept.rewritten_fields_merge.Goals as goal

pub returns : goal.returns
returns c = rewritten_fields_merge

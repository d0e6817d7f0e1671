-- What is learned is known, and nothing of any file by itself.
use Rattle.std.proofs.Common.{◌∙◌}
use Rattle.gq_kept.proofs.KeptLemmas.{kept_first}
use Rattle.gq_kept.proofs.kept.Kept.of.Goals as goal

pub invariant_of-result : goal.invariant_of-result
invariant_of-result c = kept_first c.args.project.now c.unjudged.result.documents _ _ c.new.result (c.unjudged.ensures.documents ∙ c.in_ok-copy.ensures) c.new.ensures c.in_ok-readings.ensures

use Rattle.gq_parse.proofs.Derivations.{past_limits}
use Rattle.gq_parse.proofs.laws.no_tree_past_limits.Goals as goal

pub returns : goal.returns
returns c = past_limits

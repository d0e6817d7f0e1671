use Rattle.gq_laws.proofs.RewrittenValid.AllRules.{extracts_keep_all_rules}
use Rattle.gq_laws.proofs.rewrites_valid.extracts_keep_all_rules.Goals as goal

pub returns : goal.returns
returns c =
    extracts_keep_all_rules c.extracts_keep_rules.ensures.fields c.extracts_keep_rules.ensures.operations c.extracts_keep_rules.ensures.fragments c.extracts_keep_rules.ensures.spreads c.extracts_keep_rules.ensures.variables
    c.extracts_keep_rules.ensures.merging

use Rattle.gq_laws.proofs.RewrittenValid.AllRules.{removals_keep_all_rules}
use Rattle.gq_laws.proofs.rewrites_valid.removals_keep_all_rules.Goals as goal

pub returns : goal.returns
returns c =
    removals_keep_all_rules c.removals_keep_rules.ensures.fields c.removals_keep_rules.ensures.operations c.removals_keep_rules.ensures.fragments c.removals_keep_rules.ensures.spreads c.removals_keep_rules.ensures.variables
    c.fields_out_of_braces_merge.ensures

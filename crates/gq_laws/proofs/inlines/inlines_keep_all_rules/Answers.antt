use Rattle.gq_laws.proofs.RewrittenValid.AllRules.{inlines_keep_all_rules}
use Rattle.gq_laws.proofs.inlines.inlines_keep_all_rules.Goals as goal

pub returns : goal.returns
returns c =
    inlines_keep_all_rules c.inlines_keep_rules.ensures.fields c.inlines_keep_rules.ensures.operations c.inlines_keep_rules.ensures.fragments c.inlines_keep_rules.ensures.spreads c.inlines_keep_rules.ensures.variables
    c.inlined_fields_merge.ensures

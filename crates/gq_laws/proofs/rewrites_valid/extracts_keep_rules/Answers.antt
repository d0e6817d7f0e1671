use Rattle.gq_laws.proofs.RewrittenValid.Extracts.{extracts_keep_fields, extracts_keep_operations, extracts_keep_fragments, extracts_keep_spreads, extracts_keep_variables, extracts_keep_merging}
use Rattle.gq_laws.proofs.rewrites_valid.extracts_keep_rules.Goals as goal

pub returns-clause-fields : goal.returns-clause-fields
returns-clause-fields c = extracts_keep_fields c.trees_say_what_is_faultless.ensures.fields

pub returns-clause-operations : goal.returns-clause-operations
returns-clause-operations c = extracts_keep_operations c.trees_say_what_is_faultless.ensures.operations

pub returns-clause-fragments : goal.returns-clause-fragments
returns-clause-fragments c = extracts_keep_fragments c.trees_say_what_is_faultless.ensures.fragments

pub returns-clause-spreads : goal.returns-clause-spreads
returns-clause-spreads c = extracts_keep_spreads c.trees_say_what_is_faultless.ensures.spreads

pub returns-clause-variables : goal.returns-clause-variables
returns-clause-variables c = extracts_keep_variables c.trees_say_what_is_faultless.ensures.variables

pub returns-clause-merging : goal.returns-clause-merging
returns-clause-merging c = extracts_keep_merging c.trees_say_what_is_faultless.ensures.merging c.fields_that_are_kept_merge.ensures

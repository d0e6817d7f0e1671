use Rattle.gq_laws.proofs.RewrittenValid.Removals.{removals_keep_fields, removals_keep_operations, removals_keep_fragments, removals_keep_spreads, removals_keep_variables}
use Rattle.gq_laws.proofs.rewrites_valid.removals_keep_rules.Goals as goal

pub returns-clause-fields : goal.returns-clause-fields
returns-clause-fields c = removals_keep_fields c.trees_say_what_is_faultless.ensures.fields

pub returns-clause-operations : goal.returns-clause-operations
returns-clause-operations c = removals_keep_operations c.trees_say_what_is_faultless.ensures.operations

pub returns-clause-fragments : goal.returns-clause-fragments
returns-clause-fragments c = removals_keep_fragments c.trees_say_what_is_faultless.ensures.fragments

pub returns-clause-spreads : goal.returns-clause-spreads
returns-clause-spreads c = removals_keep_spreads c.trees_say_what_is_faultless.ensures.spreads

pub returns-clause-variables : goal.returns-clause-variables
returns-clause-variables c = removals_keep_variables c.trees_say_what_is_faultless.ensures.variables

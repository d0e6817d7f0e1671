use Rattle.gq_parse.proofs.Fronts.{some_at, none_at}
use Rattle.gq_parse.proofs.MadeDefinitions.{brace_no_type_system, type_no_type_system, begins_no_operation}
use Rattle.gq_parse.proofs.definitions.begins_operation.Goals as goal

pub returns-in-Some-clause-yes : goal.returns-in-Some-clause-yes
returns-in-Some-clause-yes c = λ t. brace_no_type_system c.in-Some.ensures.found

pub returns-in-None-clause-yes : goal.returns-in-None-clause-yes
returns-in-None-clause-yes c = λ t. type_no_type_system (some_at _ _ c.is_some.ensures t c.operation_type.ensures.found).1

pub returns-in-None-clause-no : goal.returns-in-None-clause-no
returns-in-None-clause-no c = λ f. begins_no_operation c.in-None.ensures.none (none_at _ _ c.is_some.ensures f c.operation_type.ensures.none)

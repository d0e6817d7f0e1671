use Rattle.gq_parse.specs.Grammar.{a_query, a_mutation, a_subscription}
use Rattle.gq_parse.proofs.MadeSchemas.{no_operation_type}
use Rattle.gq_parse.proofs.phrases.operation_type.Goals as goal

pub returns-in-Some-clause-found : goal.returns-in-Some-clause-found
returns-in-Some-clause-found c = a_query c.in-Some.ensures.found

pub returns-in-Some-keyword-clause-found : goal.returns-in-Some-keyword-clause-found
returns-in-Some-keyword-clause-found c = a_mutation c.in-Some-keyword.ensures.found

pub returns-in-Some-keyword-2-clause-found : goal.returns-in-Some-keyword-2-clause-found
returns-in-Some-keyword-2-clause-found c = a_subscription c.in-Some-keyword-2.ensures.found

pub returns-clause-none : goal.returns-clause-none
returns-clause-none c = no_operation_type c.in_default.ensures.none c.in_default-keyword.ensures.none c.in_default-keyword-2.ensures.none

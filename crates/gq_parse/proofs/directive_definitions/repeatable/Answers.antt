use Rattle.gq_parse.specs.TypeSystem.{once}
use Rattle.gq_parse.proofs.Results.{none_of}
use Rattle.gq_parse.proofs.MadeDirectiveDefinitions.{repeatable_of, no_on_behind, no_repeatable}
use Rattle.gq_parse.proofs.directive_definitions.repeatable.Goals as goal

pub returns-in-Some-clause-found : goal.returns-in-Some-clause-found
returns-in-Some-clause-found c = once c.in-Some.ensures.found

pub returns-in_err-behind-clause-none : goal.returns-in_err-behind-clause-none
returns-in_err-behind-clause-none c = none_of _ (no_repeatable c.in_default.ensures.none c.in_err-behind.ensures.none)

pub returns-in_err-end-clause-none : goal.returns-in_err-end-clause-none
returns-in_err-end-clause-none c = none_of _ (no_on_behind c.in_ok-behind.ensures.found c.in_err-end.ensures.none)

pub returns-clause-found : goal.returns-clause-found
returns-clause-found c = repeatable_of c.in_ok-behind.ensures.found c.in_ok-end.ensures.found

use Rattle.std.proofs.lemmas.Result.{err_from_is_err_and}
use Rattle.gq_parse.proofs.MadeDirectiveDefinitions.{directive_made, no_directive_word, no_directive_at, no_directive_name, no_directive_arguments, no_directive_on, no_directive_locations}
use Rattle.gq_parse.proofs.directive_definitions.directive_definition.Goals as goal

pub returns-in_default-clause-none : goal.returns-in_default-clause-none
returns-in_default-clause-none c = λ e. no_directive_word c.in_default.ensures.none

pub returns-in_default-punctuator-clause-none : goal.returns-in_default-punctuator-clause-none
returns-in_default-punctuator-clause-none c = λ e. no_directive_at c.in-Some.ensures.found c.in_default-punctuator.ensures.none

pub returns-in_err-name-clause-none : goal.returns-in_err-name-clause-none
returns-in_err-name-clause-none c =
    let p = err_from_is_err_and c.from_residual.result c.from_residual.ensures.1 in
    rw (p.1, p.2) (λ e. no_directive_name c.in-Some.ensures.found c.in-Some-punctuator.ensures.found (c.in_err-name.ensures.none e))

pub returns-in_err-arguments-clause-none : goal.returns-in_err-arguments-clause-none
returns-in_err-arguments-clause-none c =
    let p = err_from_is_err_and c.from_residual-in_err-arguments.result c.from_residual-in_err-arguments.ensures.1 in
    rw (p.1, p.2) (λ e. no_directive_arguments c.in-Some.ensures.found c.in-Some-punctuator.ensures.found c.in_ok-name.ensures.found (c.in_err-arguments.ensures.none e))

pub returns-in_default-repeatable-clause-none : goal.returns-in_default-repeatable-clause-none
returns-in_default-repeatable-clause-none c = λ e. no_directive_on c.in-Some.ensures.found c.in-Some-punctuator.ensures.found c.in_ok-name.ensures.found c.in_ok-arguments.ensures.found c.in_default-repeatable.ensures.none

pub returns-in_err-locations-clause-none : goal.returns-in_err-locations-clause-none
returns-in_err-locations-clause-none c =
    let p = err_from_is_err_and c.from_residual-in_err-locations.result c.from_residual-in_err-locations.ensures.1 in
    rw (p.1, p.2) (λ e. no_directive_locations c.in-Some.ensures.found c.in-Some-punctuator.ensures.found c.in_ok-name.ensures.found c.in_ok-arguments.ensures.found c.in-Some-repeatable.ensures.found (c.in_err-locations.ensures.none e))

pub returns-clause-found : goal.returns-clause-found
returns-clause-found c = directive_made c.in-Some.ensures.found c.in-Some-punctuator.ensures.found c.in_ok-name.ensures.found c.in_ok-arguments.ensures.found c.in-Some-repeatable.ensures.found c.in_ok-locations.ensures.found c.covered-span.ensures

use Rattle.std.proofs.lemmas.Result.{err_from_is_err_and}
use Rattle.gq_parse.proofs.MadeParts.{variable_definition_of, no_variable, no_colon_behind, no_default_behind, no_directives_behind}
use Rattle.gq_parse.proofs.variables.variable_definition.Goals as goal

pub returns-in_err-variable-clause-none : goal.returns-in_err-variable-clause-none
returns-in_err-variable-clause-none c =
    let p = err_from_is_err_and c.from_residual.result c.from_residual.ensures.1 in
    rw (p.1, p.2) (λ e. no_variable (c.in_err-variable.ensures.none e))

pub returns-in_default-clause-none : goal.returns-in_default-clause-none
returns-in_default-clause-none c = λ e. no_colon_behind c.in_ok-variable.ensures.found c.in_default.ensures.none

pub returns-in_err-default-clause-none : goal.returns-in_err-default-clause-none
returns-in_err-default-clause-none c =
    let p = err_from_is_err_and c.from_residual-in_err-default.result c.from_residual-in_err-default.ensures.1 in
    rw (p.1, p.2) (λ e. no_default_behind c.in_ok-variable.ensures.found c.in-Some.ensures.found c.in_ok-type_ref.ensures.found (c.in_err-default.ensures.none e))

pub returns-in_err-directives-clause-none : goal.returns-in_err-directives-clause-none
returns-in_err-directives-clause-none c =
    let p = err_from_is_err_and c.from_residual-in_err-directives.result c.from_residual-in_err-directives.ensures.1 in
    rw (p.1, p.2) (λ e. no_directives_behind c.in_ok-variable.ensures.found c.in-Some.ensures.found c.in_ok-type_ref.ensures.found c.in_ok-default.ensures.found (c.in_err-directives.ensures.none e))

pub returns-clause-found : goal.returns-clause-found
returns-clause-found c = variable_definition_of c.in_ok-variable.ensures.found c.in_ok-variable.ensures.place c.in-Some.ensures.found c.in_ok-type_ref.ensures.found c.in_ok-default.ensures.found c.in_ok-directives.ensures.found

use Rattle.std.proofs.lemmas.Result.{err_from_is_err_and}
use Rattle.gq_parse.proofs.MadeDefinitions.{typed_of, no_typed_name, no_typed_variables, no_typed_directives, no_typed_set}
use Rattle.gq_parse.proofs.definitions.typed_operation.Goals as goal

pub returns-in_err-name-clause-none : goal.returns-in_err-name-clause-none
returns-in_err-name-clause-none c =
    let p = err_from_is_err_and c.from_residual.result c.from_residual.ensures.1 in
    rw (p.1, p.2) (λ e. no_typed_name c.requires.begins (c.in_err-name.ensures.none e))

pub returns-in_err-variables-clause-none : goal.returns-in_err-variables-clause-none
returns-in_err-variables-clause-none c =
    let p = err_from_is_err_and c.from_residual-in_err-variables.result c.from_residual-in_err-variables.ensures.1 in
    rw (p.1, p.2) (λ e. no_typed_variables c.requires.begins c.in_ok-name.ensures.found (c.in_err-variables.ensures.none e))

pub returns-in_err-directives-clause-none : goal.returns-in_err-directives-clause-none
returns-in_err-directives-clause-none c =
    let p = err_from_is_err_and c.from_residual-in_err-directives.result c.from_residual-in_err-directives.ensures.1 in
    rw (p.1, p.2) (λ e. no_typed_directives c.requires.begins c.in_ok-name.ensures.found c.in_ok-variables.ensures.found (c.in_err-directives.ensures.none e))

pub returns-in_err-set-clause-none : goal.returns-in_err-set-clause-none
returns-in_err-set-clause-none c =
    let p = err_from_is_err_and c.from_residual-in_err-set.result c.from_residual-in_err-set.ensures.1 in
    rw (p.1, p.2) (λ e. no_typed_set c.requires.begins c.in_ok-name.ensures.found c.in_ok-variables.ensures.found c.in_ok-directives.ensures.found (c.in_err-set.ensures.none e))

pub returns-clause-found : goal.returns-clause-found
returns-clause-found c = typed_of c.requires.begins c.in_ok-name.ensures.found c.in_ok-variables.ensures.found c.in_ok-directives.ensures.found c.in_ok-set.ensures.found c.in_ok-set.ensures.place c.covered-span.ensures

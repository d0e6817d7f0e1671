use Rattle.std.proofs.lemmas.Result.{err_from_is_err_and}
use Rattle.gq_parse.proofs.MadeDefinitions.{fragment_of, no_fragment_keyword, no_fragment_name, no_fragment_condition, no_fragment_directives, no_fragment_set}
use Rattle.gq_parse.proofs.definitions.fragment.Goals as goal

pub returns-in_default-clause-none : goal.returns-in_default-clause-none
returns-in_default-clause-none c = λ e. no_fragment_keyword c.in_default.ensures.none

pub returns-in_err-name-clause-none : goal.returns-in_err-name-clause-none
returns-in_err-name-clause-none c =
    let p = err_from_is_err_and c.from_residual.result c.from_residual.ensures.1 in
    rw (p.1, p.2) (λ e. no_fragment_name c.in-Some.ensures.found (c.in_err-name.ensures.none e))

pub returns-in_err-on-clause-none : goal.returns-in_err-on-clause-none
returns-in_err-on-clause-none c =
    let p = err_from_is_err_and c.from_residual-in_err-on.result c.from_residual-in_err-on.ensures.1 in
    rw (p.1, p.2) (λ e. no_fragment_condition c.in-Some.ensures.found c.in_ok-name.ensures.found (c.in_err-on.ensures.none e))

pub returns-in_err-directives-clause-none : goal.returns-in_err-directives-clause-none
returns-in_err-directives-clause-none c =
    let p = err_from_is_err_and c.from_residual-in_err-directives.result c.from_residual-in_err-directives.ensures.1 in
    rw (p.1, p.2) (λ e. no_fragment_directives c.in-Some.ensures.found c.in_ok-name.ensures.found c.in_ok-on.ensures.found (c.in_err-directives.ensures.none e))

pub returns-in_err-set-clause-none : goal.returns-in_err-set-clause-none
returns-in_err-set-clause-none c =
    let p = err_from_is_err_and c.from_residual-in_err-set.result c.from_residual-in_err-set.ensures.1 in
    rw (p.1, p.2) (λ e. no_fragment_set c.in-Some.ensures.found c.in_ok-name.ensures.found c.in_ok-on.ensures.found c.in_ok-directives.ensures.found (c.in_err-set.ensures.none e))

pub returns-clause-found : goal.returns-clause-found
returns-clause-found c = fragment_of c.in-Some.ensures.found c.in_ok-name.ensures.found c.in_ok-on.ensures.found c.in_ok-directives.ensures.found c.in_ok-set.ensures.found c.in_ok-set.ensures.place c.covered-span.ensures

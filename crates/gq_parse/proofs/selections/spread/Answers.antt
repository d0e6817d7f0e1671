use Rattle.std.proofs.lemmas.Result.{err_from_is_err_and}
use Rattle.gq_parse.proofs.MadeSelections.{spread_of, no_spread_name, no_spread_directives}
use Rattle.gq_parse.proofs.selections.spread.Goals as goal

pub returns-in_err-name-clause-none : goal.returns-in_err-name-clause-none
returns-in_err-name-clause-none c =
    let p = err_from_is_err_and c.from_residual.result c.from_residual.ensures.1 in
    rw (p.1, p.2) (λ e. no_spread_name c.requires.dots c.requires.no_condition (c.in_err-name.ensures.none e))

pub returns-in_err-directives-clause-none : goal.returns-in_err-directives-clause-none
returns-in_err-directives-clause-none c =
    let p = err_from_is_err_and c.from_residual-in_err-directives.result c.from_residual-in_err-directives.ensures.1 in
    rw (p.1, p.2) (λ e. no_spread_directives c.requires.dots c.requires.no_condition c.in_ok-name.ensures.found (c.in_err-directives.ensures.none e))

pub returns-clause-found : goal.returns-clause-found
returns-clause-found c = spread_of _ c.requires.dots c.in_ok-name.ensures.found c.in_ok-directives.ensures.found c.covered-span.ensures

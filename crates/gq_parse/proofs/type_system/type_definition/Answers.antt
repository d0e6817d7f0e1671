use Rattle.std.proofs.lemmas.Result.{err_from_is_err_and}
use Rattle.gq_parse.proofs.MadeTypeSystem.{type_made, no_type_definition}
use Rattle.gq_parse.proofs.type_system.type_definition.Goals as goal

pub returns-in_err-name-clause-none : goal.returns-in_err-name-clause-none
returns-in_err-name-clause-none c =
    let p = err_from_is_err_and c.from_residual.result c.from_residual.ensures.1 in
    rw (p.1, p.2) (λ e. no_type_definition (c.in_err-name.ensures.none e))

pub returns-clause-found : goal.returns-clause-found
returns-clause-found c = type_made c.in_ok-name.ensures.found c.covered-span.ensures

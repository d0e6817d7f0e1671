use Rattle.std.proofs.lemmas.Result.{err_from_is_err_and}
use Rattle.gq_parse.proofs.MadeTypes.{body_of, body_missing}
use Rattle.gq_parse.proofs.type_definitions.type_body.Goals as goal

pub returns-in_err-name-clause-none : goal.returns-in_err-name-clause-none
returns-in_err-name-clause-none c =
    let p = err_from_is_err_and c.from_residual.result c.from_residual.ensures.1 in
    rw (p.1, p.2) (λ e. body_missing _ c.in-Some.ensures.found (c.in_err-name.ensures.none e))

pub returns-clause-found : goal.returns-clause-found
returns-clause-found c = body_of _ c.in-Some.ensures.found c.in_ok-name.ensures.found

use Rattle.std.proofs.lemmas.Result.{err_from_is_err_and}
use Rattle.gq_parse.proofs.MadeTypes.{no_fielded_directives, no_fielded_fields}
use Rattle.gq_parse.proofs.type_definitions.fielded.Goals as goal

pub returns-in_err-directives-clause-none : goal.returns-in_err-directives-clause-none
returns-in_err-directives-clause-none c =
    let p = err_from_is_err_and c.from_residual-in_err-directives.result c.from_residual-in_err-directives.ensures.1 in
    rw (p.1, p.2) (λ e. no_fielded_directives c.in_ok-name.ensures.found c.in_ok-interfaces.ensures.found (c.in_err-directives.ensures.none e))

pub returns-in_err-fields-clause-none : goal.returns-in_err-fields-clause-none
returns-in_err-fields-clause-none c =
    let p = err_from_is_err_and c.from_residual-in_err-fields.result c.from_residual-in_err-fields.ensures.1 in
    rw (p.1, p.2) (λ e. no_fielded_fields c.in_ok-name.ensures.found c.in_ok-interfaces.ensures.found c.in_ok-directives.ensures.found (c.in_err-fields.ensures.none e))

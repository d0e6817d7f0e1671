use Rattle.std.proofs.lemmas.Result.{err_from_is_err_and}
use Rattle.gq_parse.proofs.MadeTypes.{no_enum, no_enum_values}
use Rattle.gq_parse.proofs.type_definitions.enum_type.Goals as goal

pub returns-in_err-name-clause-none : goal.returns-in_err-name-clause-none
returns-in_err-name-clause-none c =
    let p = err_from_is_err_and c.from_residual.result c.from_residual.ensures.1 in
    rw (p.1, p.2) (λ e. no_enum (c.in_err-name.ensures.none e))

pub returns-in_err-values-clause-none : goal.returns-in_err-values-clause-none
returns-in_err-values-clause-none c =
    let p = err_from_is_err_and c.from_residual-in_err-values.result c.from_residual-in_err-values.ensures.1 in
    rw (p.1, p.2) (λ e. no_enum_values c.in_ok-name.ensures.found (c.in_err-values.ensures.none e))

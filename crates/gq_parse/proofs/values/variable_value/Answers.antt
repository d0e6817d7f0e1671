use Rattle.std.proofs.lemmas.Result.{err_from_is_err_and}
use Rattle.gq_parse.proofs.MadeValues.{lone_variable, variable_missing}
use Rattle.gq_parse.proofs.values.variable_value.Goals as goal

pub returns-in_err-variable-clause-none : goal.returns-in_err-variable-clause-none
returns-in_err-variable-clause-none c =
    let p = err_from_is_err_and c.from_residual.result c.from_residual.ensures.1 in
    rw (p.1, p.2) (λ e. variable_missing c.requires (c.in_err-variable.ensures.none e))

pub returns-clause-found : goal.returns-clause-found
returns-clause-found c = lone_variable c.in_ok-variable.variable c.if-constant.false c.in_ok-variable.ensures.found c.in_ok-variable.ensures.place

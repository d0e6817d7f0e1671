use Rattle.std.proofs.lemmas.Result.{err_from_is_err_and}
use Rattle.gq_parse.specs.Grammar.{no_default}
use Rattle.gq_parse.proofs.MadeParts.{default_of, default_missing}
use Rattle.gq_parse.proofs.variables.default_value.Goals as goal

pub returns-in_err-value-in-Some-clause-none : goal.returns-in_err-value-in-Some-clause-none
returns-in_err-value-in-Some-clause-none c =
    let p = err_from_is_err_and c.from_residual.result c.from_residual.ensures.1 in
    rw (p.1, p.2) (λ e. default_missing c.in-Some.ensures.found (c.in_err-value-in-Some.ensures.none e))

pub returns-in_ok-value-in-Some-clause-found : goal.returns-in_ok-value-in-Some-clause-found
returns-in_ok-value-in-Some-clause-found c = default_of c.in-Some.ensures.found c.in_ok-value-in-Some.ensures.found

pub returns-in-None-clause-found : goal.returns-in-None-clause-found
returns-in-None-clause-found c = no_default c.in-None.ensures.none

use Rattle.std.proofs.lemmas.Result.{err_from_is_err_and}
use Rattle.gq_parse.specs.Grammar.{no_condition, a_condition}
use Rattle.gq_parse.proofs.Missing.{condition_missing}
use Rattle.gq_parse.proofs.phrases.optional_condition.Goals as goal

pub returns-in_err-on-in-Some-clause-none : goal.returns-in_err-on-in-Some-clause-none
returns-in_err-on-in-Some-clause-none c =
    let p = err_from_is_err_and c.from_residual.result c.from_residual.ensures.1 in
    rw (p.1, p.2) (λ e on rest h. condition_missing (c.in-Some.ensures.found) (c.in_err-on-in-Some.ensures.none e) h)

pub returns-in_ok-on-in-Some-clause-found : goal.returns-in_ok-on-in-Some-clause-found
returns-in_ok-on-in-Some-clause-found c = a_condition c.in_ok-on-in-Some.ensures.found

pub returns-in-None-clause-found : goal.returns-in-None-clause-found
returns-in-None-clause-found c = no_condition c.in-None.ensures.none

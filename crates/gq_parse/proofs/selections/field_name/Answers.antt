use Rattle.std.proofs.lemmas.Result.{err_from_is_err_and}
use Rattle.gq_parse.specs.Grammar.{no_alias, alias}
use Rattle.gq_parse.proofs.MadeSelections.{no_second_name}
use Rattle.gq_parse.proofs.selections.field_name.Goals as goal

pub returns-in_err-second-in-Some-clause-none : goal.returns-in_err-second-in-Some-clause-none
returns-in_err-second-in-Some-clause-none c =
    let p = err_from_is_err_and c.from_residual-in_err-second-in-Some.result c.from_residual-in_err-second-in-Some.ensures.1 in
    rw (p.1, p.2) (λ e x n rest h. no_second_name c.in_ok-first.ensures.found c.in-Some.ensures.found (c.in_err-second-in-Some.ensures.none e) h)

pub returns-in_ok-alias-in-Some-clause-found : goal.returns-in_ok-alias-in-Some-clause-found
returns-in_ok-alias-in-Some-clause-found c =
    rw c.in_ok-alias-in-Some.ensures.ok (alias _ _ c.in_ok-first.ensures.found c.in-Some.ensures.found c.in_ok-second-in-Some.ensures.found)

pub returns-in-None-clause-found : goal.returns-in-None-clause-found
returns-in-None-clause-found c = no_alias c.in_ok-first.ensures.found c.in-None.ensures.none

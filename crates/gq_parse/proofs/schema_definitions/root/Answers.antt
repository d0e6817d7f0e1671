use Rattle.std.proofs.lemmas.Result.{err_from_is_err_and}
use Rattle.gq_parse.proofs.MadeSchemas.{root_of, no_root_colon, no_root_name}
use Rattle.gq_parse.proofs.schema_definitions.root.Goals as goal

pub returns-in_default-punctuator-clause-none : goal.returns-in_default-punctuator-clause-none
returns-in_default-punctuator-clause-none c = λ e. no_root_colon c.in-Some.ensures.found c.in_default-punctuator.ensures.none

pub returns-in_err-name-clause-none : goal.returns-in_err-name-clause-none
returns-in_err-name-clause-none c =
    let p = err_from_is_err_and c.from_residual.result c.from_residual.ensures.1 in
    rw (p.1, p.2) (λ e. no_root_name c.in-Some.ensures.found c.in-Some-punctuator.ensures.found (c.in_err-name.ensures.none e))

pub returns-clause-found : goal.returns-clause-found
returns-clause-found c = root_of c.in-Some.ensures.found c.in-Some-punctuator.ensures.found c.in_ok-name.ensures.found

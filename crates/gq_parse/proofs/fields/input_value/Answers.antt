use Rattle.std.proofs.lemmas.Result.{err_from_is_err_and}
use Rattle.gq_parse.specs.TypeSystem.{an_input_value}
use Rattle.gq_parse.proofs.MadeFields.{no_input_name, no_input_colon, no_input_type, no_input_default, no_input_directives}
use Rattle.gq_parse.proofs.fields.input_value.Goals as goal

pub returns-in_err-name-clause-none : goal.returns-in_err-name-clause-none
returns-in_err-name-clause-none c =
    let p = err_from_is_err_and c.from_residual-in_err-name.result c.from_residual-in_err-name.ensures.1 in
    rw (p.1, p.2) (λ e. no_input_name c.in_ok-description.ensures.found (c.in_err-name.ensures.none e))

pub returns-in_default-clause-none : goal.returns-in_default-clause-none
returns-in_default-clause-none c = λ e. no_input_colon c.in_ok-description.ensures.found c.in_ok-name.ensures.found c.in_default.ensures.none

pub returns-in_err-type_ref-clause-none : goal.returns-in_err-type_ref-clause-none
returns-in_err-type_ref-clause-none c =
    let p = err_from_is_err_and c.from_residual-in_err-type_ref.result c.from_residual-in_err-type_ref.ensures.1 in
    rw (p.1, p.2) (λ e. no_input_type c.in_ok-description.ensures.found c.in_ok-name.ensures.found c.in-Some.ensures.found (c.in_err-type_ref.ensures.none e))

pub returns-in_err-default-clause-none : goal.returns-in_err-default-clause-none
returns-in_err-default-clause-none c =
    let p = err_from_is_err_and c.from_residual-in_err-default.result c.from_residual-in_err-default.ensures.1 in
    rw (p.1, p.2) (λ e. no_input_default c.in_ok-description.ensures.found c.in_ok-name.ensures.found c.in-Some.ensures.found c.in_ok-type_ref.ensures.found (c.in_err-default.ensures.none e))

pub returns-in_err-directives-clause-none : goal.returns-in_err-directives-clause-none
returns-in_err-directives-clause-none c =
    let p = err_from_is_err_and c.from_residual-in_err-directives.result c.from_residual-in_err-directives.ensures.1 in
    rw (p.1, p.2) (λ e. no_input_directives c.in_ok-description.ensures.found c.in_ok-name.ensures.found c.in-Some.ensures.found c.in_ok-type_ref.ensures.found c.in_ok-default.ensures.found (c.in_err-directives.ensures.none e))

pub returns-clause-found : goal.returns-clause-found
returns-clause-found c = an_input_value _ _ _ _ _ c.in_ok-description.ensures.found c.in_ok-name.ensures.found c.in-Some.ensures.found c.in_ok-type_ref.ensures.found c.in_ok-default.ensures.found c.in_ok-directives.ensures.found

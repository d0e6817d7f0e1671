use Rattle.std.proofs.lemmas.Result.{err_from_is_err_and}
use Rattle.gq_parse.specs.TypeSystem.{a_field_definition}
use Rattle.gq_parse.proofs.MadeFields.{no_field_name, no_field_arguments, no_field_colon, no_field_type, no_field_directives}
use Rattle.gq_parse.proofs.fields.field_definition.Goals as goal

pub returns-in_err-name-clause-none : goal.returns-in_err-name-clause-none
returns-in_err-name-clause-none c =
    let p = err_from_is_err_and c.from_residual-in_err-name.result c.from_residual-in_err-name.ensures.1 in
    rw (p.1, p.2) (λ e. no_field_name c.in_ok-description.ensures.found (c.in_err-name.ensures.none e))

pub returns-in_err-arguments-clause-none : goal.returns-in_err-arguments-clause-none
returns-in_err-arguments-clause-none c =
    let p = err_from_is_err_and c.from_residual-in_err-arguments.result c.from_residual-in_err-arguments.ensures.1 in
    rw (p.1, p.2) (λ e. no_field_arguments c.in_ok-description.ensures.found c.in_ok-name.ensures.found (c.in_err-arguments.ensures.none e))

pub returns-in_default-clause-none : goal.returns-in_default-clause-none
returns-in_default-clause-none c = λ e. no_field_colon c.in_ok-description.ensures.found c.in_ok-name.ensures.found c.in_ok-arguments.ensures.found c.in_default.ensures.none

pub returns-in_err-type_ref-clause-none : goal.returns-in_err-type_ref-clause-none
returns-in_err-type_ref-clause-none c =
    let p = err_from_is_err_and c.from_residual-in_err-type_ref.result c.from_residual-in_err-type_ref.ensures.1 in
    rw (p.1, p.2) (λ e. no_field_type c.in_ok-description.ensures.found c.in_ok-name.ensures.found c.in_ok-arguments.ensures.found c.in-Some.ensures.found (c.in_err-type_ref.ensures.none e))

pub returns-in_err-directives-clause-none : goal.returns-in_err-directives-clause-none
returns-in_err-directives-clause-none c =
    let p = err_from_is_err_and c.from_residual-in_err-directives.result c.from_residual-in_err-directives.ensures.1 in
    rw (p.1, p.2) (λ e. no_field_directives c.in_ok-description.ensures.found c.in_ok-name.ensures.found c.in_ok-arguments.ensures.found c.in-Some.ensures.found c.in_ok-type_ref.ensures.found (c.in_err-directives.ensures.none e))

pub returns-clause-found : goal.returns-clause-found
returns-clause-found c = a_field_definition _ _ _ _ _ c.in_ok-description.ensures.found c.in_ok-name.ensures.found c.in_ok-arguments.ensures.found c.in-Some.ensures.found c.in_ok-type_ref.ensures.found c.in_ok-directives.ensures.found

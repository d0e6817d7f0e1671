use Rattle.std.proofs.lemmas.Result.{err_from_is_err_and}
use Rattle.gq_parse.specs.TypeSystem.{an_enum_value}
use Rattle.gq_parse.proofs.MadeFields.{no_value_name, value_of_its_own, no_value_directives, word_said, no_word_said}
use Rattle.gq_parse.proofs.fields.enum_value.Goals as goal

pub returns-in_err-name-clause-none : goal.returns-in_err-name-clause-none
returns-in_err-name-clause-none c =
    let p = err_from_is_err_and c.from_residual-in_err-name.result c.from_residual-in_err-name.ensures.1 in
    rw (p.1, p.2) (λ e. no_value_name c.in_ok-description.ensures.found (c.in_err-name.ensures.none e))

pub returns-then-is_value_word-clause-none : goal.returns-then-is_value_word-clause-none
returns-then-is_value_word-clause-none c = λ e. value_of_its_own c.in_ok-description.ensures.found c.in_ok-name.ensures.found (word_said _ _ _ c.as_str.ensures c.is_value_word.ensures c.if-is_value_word.true)

pub returns-in_err-directives-clause-none : goal.returns-in_err-directives-clause-none
returns-in_err-directives-clause-none c =
    let p = err_from_is_err_and c.from_residual-in_err-directives.result c.from_residual-in_err-directives.ensures.1 in
    rw (p.1, p.2) (λ e. no_value_directives c.in_ok-description.ensures.found c.in_ok-name.ensures.found (c.in_err-directives.ensures.none e))

pub returns-clause-found : goal.returns-clause-found
returns-clause-found c = an_enum_value _ _ c.in_ok-description.ensures.found c.in_ok-name.ensures.found (no_word_said _ _ _ c.as_str.ensures c.is_value_word.ensures c.if-is_value_word.false) c.in_ok-directives.ensures.found

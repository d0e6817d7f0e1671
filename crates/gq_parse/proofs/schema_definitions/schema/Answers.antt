use Rattle.std.proofs.lemmas.Result.{err_from_is_err_and}
use Rattle.gq_parse.proofs.MadeSchemas.{schema_of, no_schema_word, no_schema_roots}
use Rattle.gq_parse.proofs.schema_definitions.schema.Goals as goal

pub returns-in_default-clause-none : goal.returns-in_default-clause-none
returns-in_default-clause-none c = λ e. no_schema_word c.in_default.ensures.none

pub returns-in_err-roots-clause-none : goal.returns-in_err-roots-clause-none
returns-in_err-roots-clause-none c =
    let p = err_from_is_err_and c.from_residual-in_err-roots.result c.from_residual-in_err-roots.ensures.1 in
    rw (p.1, p.2) (λ e. no_schema_roots c.in-Some.ensures.found c.in_ok-directives.ensures.found (c.in_err-roots.ensures.none e))

pub returns-clause-found : goal.returns-clause-found
returns-clause-found c = schema_of c.in-Some.ensures.found c.in_ok-directives.ensures.found c.in_ok-roots.ensures.found

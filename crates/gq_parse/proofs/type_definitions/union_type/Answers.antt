use Rattle.std.proofs.lemmas.Result.{err_from_is_err_and}
use Rattle.gq_parse.proofs.MadeTypes.{no_union, no_union_members}
use Rattle.gq_parse.proofs.type_definitions.union_type.Goals as goal

pub returns-in_err-name-clause-none : goal.returns-in_err-name-clause-none
returns-in_err-name-clause-none c =
    let p = err_from_is_err_and c.from_residual.result c.from_residual.ensures.1 in
    rw (p.1, p.2) (λ e. no_union (c.in_err-name.ensures.none e))

pub returns-in_err-members-clause-none : goal.returns-in_err-members-clause-none
returns-in_err-members-clause-none c =
    let p = err_from_is_err_and c.from_residual-in_err-members.result c.from_residual-in_err-members.ensures.1 in
    rw (p.1, p.2) (λ e. no_union_members c.in_ok-name.ensures.found (c.in_err-members.ensures.none e))

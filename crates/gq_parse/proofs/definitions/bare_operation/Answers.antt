use Rattle.std.proofs.Common.{ap, map}
use Rattle.std.proofs.lemmas.Result.{err_from_is_err_and}
use Rattle.gq_tree.specs.Views.{variable_view, directive_view}
use Rattle.gq_parse.proofs.MadeDefinitions.{bare_of, no_bare_set}
use Rattle.gq_parse.proofs.definitions.bare_operation.Goals as goal

pub returns-in_err-set-clause-none : goal.returns-in_err-set-clause-none
returns-in_err-set-clause-none c =
    let p = err_from_is_err_and c.from_residual.result c.from_residual.ensures.1 in
    rw (p.1, p.2) (λ e. no_bare_set c.requires.no_type (c.in_err-set.ensures.none e))

pub returns-clause-found : goal.returns-clause-found
returns-clause-found c = bare_of (ap (map variable_view) c.new.ensures.items) (ap (map directive_view) c.new-2.ensures.items) c.in_ok-set.ensures.found c.in_ok-set.ensures.place

use Rattle.std.proofs.Common.{arith, sym, ◌∙◌, false-eqb}
use Rattle.std.proofs.lemmas.Bool.{eqb-true}
use Rattle.std.proofs.lemmas.Result.{err_from_is_err_and}
use Rattle.gq_tree.specs.Views.{root_view}
use Rattle.gq_parse.proofs.Fronts.{no_items, some_items}
use Rattle.gq_parse.proofs.MadeTypeSystem.{schema_made, no_schema, schema_without_roots, not_empty}
use Rattle.gq_parse.proofs.type_system.schema_definition.Goals as goal

pub returns-in_err-directives-clause-none : goal.returns-in_err-directives-clause-none
returns-in_err-directives-clause-none c =
    let p = err_from_is_err_and c.from_residual.result c.from_residual.ensures.1 in
    rw (p.1, p.2) (λ e. no_schema (c.in_err-directives.ensures.none e))

pub returns-then-is_empty-clause-none : goal.returns-then-is_empty-clause-none
returns-then-is_empty-clause-none c =
    let empty = no_items root_view _ (omega (arith, c.in_ok-directives.roots.ok.0, eqb-true _ _ (sym c.is_empty.ensures ∙ c.if-is_empty.true))) in
    λ e. schema_without_roots c.in_ok-directives.ensures.found empty

pub returns-clause-found : goal.returns-clause-found
returns-clause-found c =
    let some = some_items root_view _ (omega (arith, c.in_ok-directives.roots.ok.0, false-eqb _ _ (sym c.if-is_empty.false ∙ c.is_empty.ensures))) in
    schema_made c.in_ok-directives.ensures.found (not_empty _ some) c.covered-span.ensures

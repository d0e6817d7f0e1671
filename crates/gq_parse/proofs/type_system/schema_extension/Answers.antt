use Rattle.std.proofs.Common.{inl, inr}
use Rattle.std.proofs.lemmas.Result.{err_from_is_err_and}
use Rattle.gq_tree.specs.Views.{directive_view, root_view}
use Rattle.gq_parse.proofs.MadeTypeSystem.{found_empty, found_filled, schema_extension_made, no_schema_extension, schema_extension_empty}
use Rattle.gq_parse.proofs.type_system.schema_extension.Goals.{else-is_empty-via-then-is_empty+else-is_empty-2, else-is_empty-via-else-is_empty}
use Rattle.gq_parse.proofs.type_system.schema_extension.Goals as goal

pub returns-in_err-directives-clause-none : goal.returns-in_err-directives-clause-none
returns-in_err-directives-clause-none c =
    let p = err_from_is_err_and c.from_residual.result c.from_residual.ensures.1 in
    rw (p.1, p.2) (λ e. no_schema_extension (c.in_err-directives.ensures.none e))

pub returns-then-is_empty-2-clause-none : goal.returns-then-is_empty-2-clause-none
returns-then-is_empty-2-clause-none c =
    let no_directives = found_empty directive_view _ _ _ c.in_ok-directives.directives.ok.0 c.is_empty.ensures c.if-is_empty.true in
    let no_roots = found_empty root_view _ _ _ c.in_ok-directives.roots.ok.0 c.is_empty-then-is_empty.ensures c.if-is_empty-2.true in
    λ e. schema_extension_empty c.in_ok-directives.ensures.found no_directives no_roots

pub returns-clause-found : goal.returns-clause-found
returns-clause-found c = elim c.else-is_empty.branch [
  | else-is_empty-via-then-is_empty+else-is_empty-2 w ↦ schema_extension_made c.in_ok-directives.ensures.found (inr (found_filled root_view _ _ _ c.in_ok-directives.roots.ok.0 w.is_empty-then-is_empty.ensures w.if-is_empty-2.false)) c.covered-span.ensures
  | else-is_empty-via-else-is_empty w ↦ schema_extension_made c.in_ok-directives.ensures.found (inl (found_filled directive_view _ _ _ c.in_ok-directives.directives.ok.0 c.is_empty.ensures w.if-is_empty.false)) c.covered-span.ensures
]

use Rattle.std.proofs.Common.{inl, inr}
use Rattle.std.proofs.lemmas.Result.{err_from_is_err_and}
use Rattle.gq_tree.specs.Views.{directive_view}
use Rattle.gq_parse.proofs.MadeTypeSystem.{found_empty, found_filled, parts_found, no_parts_found, type_extension_made, no_type_extension, type_extension_empty}
use Rattle.gq_parse.proofs.type_system.type_extension.Goals.{else-is_empty-via-then-is_empty+else-not-has_parts, else-is_empty-via-else-is_empty}
use Rattle.gq_parse.proofs.type_system.type_extension.Goals as goal

pub returns-in_err-name-clause-none : goal.returns-in_err-name-clause-none
returns-in_err-name-clause-none c =
    let p = err_from_is_err_and c.from_residual.result c.from_residual.ensures.1 in
    rw (p.1, p.2) (λ e. no_type_extension (c.in_err-name.ensures.none e))

pub returns-then-not-has_parts-clause-none : goal.returns-then-not-has_parts-clause-none
returns-then-not-has_parts-clause-none c =
    let no_directives = found_empty directive_view _ _ _ c.in_ok-name.directives.ok.0 c.is_empty.ensures c.if-is_empty.true in
    λ e. type_extension_empty c.in_ok-name.ensures.found no_directives (no_parts_found _ _ c.has_parts.ensures c.if-not-has_parts.true)

pub returns-clause-found : goal.returns-clause-found
returns-clause-found c = elim c.else-is_empty.branch [
  | else-is_empty-via-then-is_empty+else-not-has_parts w ↦ type_extension_made c.in_ok-name.ensures.found (inr (parts_found _ _ w.has_parts.ensures w.if-not-has_parts.false)) c.covered-span.ensures
  | else-is_empty-via-else-is_empty w ↦ type_extension_made c.in_ok-name.ensures.found (inl (found_filled directive_view _ _ _ c.in_ok-name.directives.ok.0 c.is_empty.ensures w.if-is_empty.false)) c.covered-span.ensures
]

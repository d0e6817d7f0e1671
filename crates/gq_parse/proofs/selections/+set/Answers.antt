use Rattle.std.proofs.Common.{rules, arith, ap, map, sym, ◌∙◌, false-eqb}
use Rattle.std.proofs.lemmas.Bool.{eqb-true}
use Rattle.std.proofs.lemmas.Result.{err_from_is_err_and}
use Rattle.gq_tree.specs.Views.{sel_view}
use Rattle.gq_parse.specs.Grammar.{no_set}
use Rattle.gq_parse.proofs.Fronts.{front_start, front_put, front_closed, not_closed, no_items, some_items}
use Rattle.gq_parse.proofs.MadeSelections.{unique_sel, sel_or_close, field_of, inline_of, set_of, set_missing, set_empty, optional_set_of, optional_set_missing, no_field_name, no_field_arguments, no_field_directives, no_field_set, no_inline_directives, no_inline_set, no_inline_condition}
use Rattle.gq_parse.proofs.selections.+set.Goals as goal

pub selection_set-returns-in_err-items-clause-none : goal.selection_set-returns-in_err-items-clause-none
selection_set-returns-in_err-items-clause-none t c =
    let p = err_from_is_err_and c.from_residual.result c.from_residual.ensures.1 in
    rw (p.1, p.2) (λ e. set_missing c.in-Some.ensures.found (c.in_err-items.ensures.none e))

pub selection_set-returns-then-is_empty-clause-none : goal.selection_set-returns-then-is_empty-clause-none
selection_set-returns-then-is_empty-clause-none t c =
    let empty = no_items sel_view _ (omega (arith, c.in_ok-items.items.ok.0, eqb-true _ _ (sym c.is_empty.ensures ∙ c.if-is_empty.true))) in
    λ e. set_empty _ c.in-Some.ensures.found c.in_ok-items.ensures.found empty

pub selection_set-returns-clause-found : goal.selection_set-returns-clause-found
selection_set-returns-clause-found t c =
    let some = some_items sel_view _ (omega (arith, c.in_ok-items.items.ok.0, false-eqb _ _ (sym c.if-is_empty.false ∙ c.is_empty.ensures))) in
    set_of _ c.in-Some.ensures.found c.in_ok-items.ensures.found some

pub optional_set-returns-in_err-set-in-Some-clause-none : goal.optional_set-returns-in_err-set-in-Some-clause-none
optional_set-returns-in_err-set-in-Some-clause-none t c =
    let p = err_from_is_err_and c.from_residual.result c.from_residual.ensures.1 in
    rw (p.1, p.2) (λ e o ss rest h. optional_set_missing c.in-Some.ensures.found (c.in_err-set-in-Some.ensures.none e) h)

pub optional_set-returns-in_ok-set-in-Some-2-clause-found : goal.optional_set-returns-in_ok-set-in-Some-2-clause-found
optional_set-returns-in_ok-set-in-Some-2-clause-found t c = rw c.in_ok-set-in-Some-2.ensures.ok (optional_set_of c.in_ok-set-in-Some.ensures.found c.in_ok-set-in-Some.ensures.place)

pub optional_set-returns-in-None-clause-found : goal.optional_set-returns-in-None-clause-found
optional_set-returns-in-None-clause-found t c = no_set c.in-None.ensures.none

pub selections-loop-end-init : goal.selections-loop-end-init
selections-loop-end-init t c = record { after = omega arith; within = c.requires; front = front_start _ (ap (map sel_view) c.new-items.ensures.items) }

pub selections-loop-end-preserved : goal.selections-loop-end-preserved
selections-loop-end-preserved t c = record {
  after = omega (arith, c.in_ok-one.ensures.within.0, c.loop-end.invariant.after);
  within = c.in_ok-one.ensures.within.1;
  front = front_put _ _ _ c.in_ok-put_selection.ensures.ok c.loop-end.invariant.front c.in_ok-one.ensures.found;
}

pub selections-returns-in-Some-clause-found : goal.selections-returns-in-Some-clause-found
selections-returns-in-Some-clause-found t c =
    let closed = front_closed c.loop-end.invariant.front c.in-Some.ensures.found in
    rw c.in_ok-items.ensures.ok closed

pub selections-returns-in_err-one-clause-none : goal.selections-returns-in_err-one-clause-none
selections-returns-in_err-one-clause-none t c =
    let p = err_from_is_err_and c.from_residual-in_err-one.result c.from_residual-in_err-one.ensures.1 in
    rw (p.1, p.2) (λ e. not_closed unique_sel sel_or_close c.loop-end.invariant.front c.in_default.ensures.none (c.in_err-one.ensures.none e))

pub selection-inline_fragment-requires : goal.selection-inline_fragment-requires
selection-inline_fragment-requires t c = (search rules, (c.in-Some.ensures.found, (c.in-Some.ensures.within, c.names_fragment.ensures.no c.if-names_fragment.false)))

pub field-returns-in_err-alias-clause-none : goal.field-returns-in_err-alias-clause-none
field-returns-in_err-alias-clause-none t c =
    let p = err_from_is_err_and c.from_residual.result c.from_residual.ensures.1 in
    rw (p.1, p.2) (λ e. no_field_name c.requires.no_dots (c.in_err-alias.ensures.none e))

pub field-returns-in_err-arguments-clause-none : goal.field-returns-in_err-arguments-clause-none
field-returns-in_err-arguments-clause-none t c =
    let p = err_from_is_err_and c.from_residual-in_err-arguments.result c.from_residual-in_err-arguments.ensures.1 in
    rw (p.1, p.2) (λ e. no_field_arguments c.in_ok-alias.ensures.found (c.in_err-arguments.ensures.none e))

pub field-returns-in_err-directives-clause-none : goal.field-returns-in_err-directives-clause-none
field-returns-in_err-directives-clause-none t c =
    let p = err_from_is_err_and c.from_residual-in_err-directives.result c.from_residual-in_err-directives.ensures.1 in
    rw (p.1, p.2) (λ e. no_field_directives c.in_ok-alias.ensures.found c.in_ok-arguments.ensures.found (c.in_err-directives.ensures.none e))

pub field-returns-in_err-set-clause-none : goal.field-returns-in_err-set-clause-none
field-returns-in_err-set-clause-none t c =
    let p = err_from_is_err_and c.from_residual-in_err-set.result c.from_residual-in_err-set.ensures.1 in
    rw (p.1, p.2) (λ e. no_field_set c.in_ok-alias.ensures.found c.in_ok-arguments.ensures.found c.in_ok-directives.ensures.found (c.in_err-set.ensures.none e))

pub field-returns-clause-found : goal.field-returns-clause-found
field-returns-clause-found t c = field_of _ _ _ _ _ _ c.in_ok-alias.ensures.found c.in_ok-arguments.ensures.found c.in_ok-directives.ensures.found c.in_ok-set.ensures.found c.covered-span.ensures

pub inline_fragment-returns-in_err-on-clause-none : goal.inline_fragment-returns-in_err-on-clause-none
inline_fragment-returns-in_err-on-clause-none t c =
    let p = err_from_is_err_and c.from_residual.result c.from_residual.ensures.1 in
    rw (p.1, p.2) (λ e. no_inline_condition c.requires.dots c.requires.no_name (c.in_err-on.ensures.none e))

pub inline_fragment-returns-in_err-directives-clause-none : goal.inline_fragment-returns-in_err-directives-clause-none
inline_fragment-returns-in_err-directives-clause-none t c =
    let p = err_from_is_err_and c.from_residual-in_err-directives.result c.from_residual-in_err-directives.ensures.1 in
    rw (p.1, p.2) (λ e. no_inline_directives c.requires.dots c.requires.no_name c.in_ok-on.ensures.found (c.in_err-directives.ensures.none e))

pub inline_fragment-returns-in_err-set-clause-none : goal.inline_fragment-returns-in_err-set-clause-none
inline_fragment-returns-in_err-set-clause-none t c =
    let p = err_from_is_err_and c.from_residual-in_err-set.result c.from_residual-in_err-set.ensures.1 in
    rw (p.1, p.2) (λ e. no_inline_set c.requires.dots c.requires.no_name c.in_ok-on.ensures.found c.in_ok-directives.ensures.found (c.in_err-set.ensures.none e))

pub inline_fragment-returns-clause-found : goal.inline_fragment-returns-clause-found
inline_fragment-returns-clause-found t c = inline_of _ _ _ _ c.requires.dots c.in_ok-on.ensures.found c.in_ok-directives.ensures.found c.in_ok-set.ensures.found c.in_ok-set.ensures.place c.covered-span.ensures

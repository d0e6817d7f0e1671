use Rattle.std.proofs.Common.{ap, sym, refl, ◌∙◌}
use Rattle.gq_tree.specs.Views.{below_of, sels_view}
use Rattle.gq_kept.proofs.FieldNamesLemmas.{field_has, inline_has, on_both, on_ok, reached, selects_below, selects_in_row, spread_has}
use Rattle.gq_kept.proofs.field_names.+put.Goals as goal

pub put_selection-returns-in-Some-clause-has : goal.put_selection-returns-in-Some-clause-has
put_selection-returns-in-Some-clause-has t c =
    let below = ap below_of c.in-Some.is ∙ sym (ap sels_view (c.deref-in-Some.ensures.value ∙ ap (λ s. s.items.items) c.deref.ensures)) in
    on_both c.put_selections.result (field_has _ c.in-Field.field _ c.put.new.names _ c.in-Field.is below c.in_ok-put-in-Field.ensures.has)
    c.put_selections.ensures.grows c.put_selections.ensures.has

pub put_selection-returns-in-None-clause-has : goal.put_selection-returns-in-None-clause-has
put_selection-returns-in-None-clause-has t c =
    field_has _ c.in-Field.field _ c.put.new.names _ c.in-Field.is (ap below_of c.in-None.is) c.in_ok-put-in-Field.ensures.has (λ texts h. h) (λ texts h. refl)

pub put_selection-returns-in-Spread-clause-has : goal.put_selection-returns-in-Spread-clause-has
put_selection-returns-in-Spread-clause-has t c = spread_has _ c.in-Spread.field-0 _ c.in-Spread.is

pub put_selection-returns-in-Inline-clause-has : goal.put_selection-returns-in-Inline-clause-has
put_selection-returns-in-Inline-clause-has t c =
    on_ok c.put_selections-in-Inline.result (inline_has _ c.in-Inline.inline _ _ c.in-Inline.is (sym (ap sels_view c.deref-in-Inline.ensures.value)))
    c.put_selections-in-Inline.ensures.has

pub put_selections-returns-clause-has : goal.put_selections-returns-clause-has
put_selections-returns-clause-has t c texts h =
    let all = c.args.selections.now in
    selects_in_row texts all
    ∙ reached selects_below all c.loop-selection.selection-index c.loop-selection.names c.loop-selection-test.false c.loop-selection.invariant.1 texts h

use Rattle.std.proofs.Common.{◌≡◌, ◌++◌, ◌∷◌, [], sym, ap, ◌∙◌, arith}
use Rattle.gq_meaning.specs.Selected.{none}
use Rattle.gq_meaning.specs.Views.{before, set_in}
use Rattle.gq_meaning.proofs.Steps.{entering, way_one, way_inner, field_is, spread_is, inline_is, field_skips, field_takes, spread_skips, spread_repeats, spread_fails, spread_misses, spread_enters, inline_skips, inline_misses, inline_enters, continues_next, continues_last}
use Rattle.gq_document.specs.Definitions.{fragment_view}
use Rattle.gq_collect.specs.Fragments.{definition_of}
use Rattle.gq_collect.specs.World.{definitions_in, given_by}
use Rattle.gq_collect.specs.Views.{setting_in}
use Rattle.gq_collect.proofs.CollectLemmas.{asked_push, took, visited_by, found_none, found_one}
use Rattle.gq_collect.proofs.collect.+collect.Goals as goal

pub collect_one-returns-then-not-takes : goal.collect_one-returns-then-not-takes
collect_one-returns-then-not-takes t c =
    field_skips (setting_in c.args.world c.args.object.now) (definitions_in c.args.world) _ _ _ _ _ _ _ _ (λ rest. field_is _ c.in-Field.field rest c.in-Field.is)
    (took c.args.world c.args.object.now _ _ _ _ c.deref.ensures.value c.takes.ensures c.if-not-takes.true)

pub collect_one-returns-then-not-takes-2 : goal.collect_one-returns-then-not-takes-2
collect_one-returns-then-not-takes-2 t c =
    spread_skips (setting_in c.args.world c.args.object.now) (definitions_in c.args.world) _ _ _ _ _ (λ rest. spread_is _ c.in-Spread.spread rest c.in-Spread.is)
    (took c.args.world c.args.object.now _ _ _ _ c.deref-in-Spread.ensures.value c.takes-in-Spread.ensures c.if-not-takes-2.true)

pub collect_one-returns-then-contains : goal.collect_one-returns-then-contains
collect_one-returns-then-contains t c =
    spread_repeats (setting_in c.args.world c.args.object.now) (definitions_in c.args.world) _ _ _ _ _ (λ rest. spread_is _ c.in-Spread.spread rest c.in-Spread.is)
    (took c.args.world c.args.object.now _ _ _ _ c.deref-in-Spread.ensures.value c.takes-in-Spread.ensures c.if-not-takes-2.false)
    (visited_by _ _ _ _ _ c.as_str-name.ensures c.contains.ensures c.if-contains.true)

pub collect_one-returns-in-None : goal.collect_one-returns-in-None
collect_one-returns-in-None t c =
    spread_fails (setting_in c.args.world c.args.object.now) (definitions_in c.args.world) _ _ _ _ _ _ (λ rest. spread_is _ c.in-Spread.spread rest c.in-Spread.is)
    (took c.args.world c.args.object.now _ _ _ _ c.deref-in-Spread.ensures.value c.takes-in-Spread.ensures c.if-not-takes-2.false)
    (c.in_ok-push-in-Spread.ensures.ok ∙ ap (λ z. c.args.visited.now ++ z ∷ []) c.as_str-name.ensures)
    (found_none (λ f. definition_of (fragment_view f.now)) _ _ _ _ c.fragment.ensures c.as_str-name.ensures c.in-None.is)

pub collect_one-returns-then-not-applies : goal.collect_one-returns-then-not-applies
collect_one-returns-then-not-applies t c =
    spread_misses (setting_in c.args.world c.args.object.now) (definitions_in c.args.world) _ _ _ _ _ _ (definition_of (fragment_view c.in-Some.fragment.now)) (λ rest. spread_is _ c.in-Spread.spread rest c.in-Spread.is)
    (took c.args.world c.args.object.now _ _ _ _ c.deref-in-Spread.ensures.value c.takes-in-Spread.ensures c.if-not-takes-2.false)
    (c.in_ok-push-in-Spread.ensures.ok ∙ ap (λ z. c.args.visited.now ++ z ∷ []) c.as_str-name.ensures)
    (found_one (λ f. definition_of (fragment_view f.now)) _ _ _ _ _ c.fragment.ensures c.as_str-name.ensures c.in-Some.is)
    (ap (λ z. (given_by c.args.world).applies z c.args.object.now) (sym c.as_str.ensures) ∙ sym c.applies.ensures ∙ c.if-not-applies.true)

pub collect_one-collect_set-requires : goal.collect_one-collect_set-requires
collect_one-collect_set-requires t c =
    let p = entering (definitions_in c.args.world) c.args.visited.now _ _ (definition_of (fragment_view c.in-Some.fragment.now)) (before c.args.selection.now none) (set_in c.deref-in-Some.result.now)
    (c.in_ok-push-in-Spread.ensures.ok ∙ ap (λ z. c.args.visited.now ++ z ∷ []) c.as_str-name.ensures)
    (visited_by _ _ _ _ _ c.as_str-name.ensures c.contains.ensures c.if-contains.false)
    (found_one (λ f. definition_of (fragment_view f.now)) _ _ _ _ _ c.fragment.ensures c.as_str-name.ensures c.in-Some.is) (ap set_in c.deref-in-Some.ensures.value) in
    (omega (arith, c.requires), tt)

pub collect_one-returns-then-not-takes-3 : goal.collect_one-returns-then-not-takes-3
collect_one-returns-then-not-takes-3 t c =
    inline_skips (setting_in c.args.world c.args.object.now) (definitions_in c.args.world) _ _ _ _ _ _ (λ rest. inline_is _ c.in-Inline.inline rest c.in-Inline.is)
    (took c.args.world c.args.object.now _ _ _ _ c.deref-in-Inline.ensures.value c.takes-in-Inline.ensures c.if-not-takes-3.true)

pub collect_one-returns-then-not-is_applicable : goal.collect_one-returns-then-not-is_applicable
collect_one-returns-then-not-is_applicable t c =
    inline_misses (setting_in c.args.world c.args.object.now) (definitions_in c.args.world) _ _ _ _ _ _ (λ rest. inline_is _ c.in-Inline.inline rest c.in-Inline.is)
    (took c.args.world c.args.object.now _ _ _ _ c.deref-in-Inline.ensures.value c.takes-in-Inline.ensures c.if-not-takes-3.false)
    (sym c.is_applicable.ensures ∙ c.if-not-is_applicable.true)

pub collect_one-returns-in_ok-push-in-Field : goal.collect_one-returns-in_ok-push-in-Field
collect_one-returns-in_ok-push-in-Field t c =
    field_takes (setting_in c.args.world c.args.object.now) (definitions_in c.args.world) _ _ _ _ _ _ _ _ _ (λ rest. field_is _ c.in-Field.field rest c.in-Field.is)
    (took c.args.world c.args.object.now _ _ _ _ c.deref.ensures.value c.takes.ensures c.if-not-takes.false)
    (asked_push _ _ _ _ c.in_ok-push-in-Field.ensures.items c.taken_of.ensures)

pub collect_one-returns-in_ok-collect_set-in-Some : goal.collect_one-returns-in_ok-collect_set-in-Some
collect_one-returns-in_ok-collect_set-in-Some t c =
    spread_enters (setting_in c.args.world c.args.object.now) (definitions_in c.args.world) _ _ _ _ _ _ _ _ (definition_of (fragment_view c.in-Some.fragment.now)) (λ rest. spread_is _ c.in-Spread.spread rest c.in-Spread.is)
    (took c.args.world c.args.object.now _ _ _ _ c.deref-in-Spread.ensures.value c.takes-in-Spread.ensures c.if-not-takes-2.false)
    (c.in_ok-push-in-Spread.ensures.ok ∙ ap (λ z. c.args.visited.now ++ z ∷ []) c.as_str-name.ensures)
    (found_one (λ f. definition_of (fragment_view f.now)) _ _ _ _ _ c.fragment.ensures c.as_str-name.ensures c.in-Some.is)
    (ap (λ z. (given_by c.args.world).applies z c.args.object.now) (sym c.as_str.ensures) ∙ sym c.applies.ensures ∙ c.if-not-applies.false)
    (rw c.deref-in-Some.ensures.value at c.in_ok-collect_set-in-Some.ensures)

pub collect_one-collect_set-requires-in-Inline : goal.collect_one-collect_set-requires-in-Inline
collect_one-collect_set-requires-in-Inline t c =
    let p = way_inner (definitions_in c.args.world) c.args.visited.now c.args.selection.now c.in-Inline.inline c.in-Inline.is in
    let q = ap set_in c.deref-in-Inline-2.ensures.value in
    (rw q (omega (arith, c.requires)), tt)

pub collect_one-returns-in_ok-collect_set-in-Inline : goal.collect_one-returns-in_ok-collect_set-in-Inline
collect_one-returns-in_ok-collect_set-in-Inline t c =
    inline_enters (setting_in c.args.world c.args.object.now) (definitions_in c.args.world) _ _ _ _ _ _ _ _ (λ rest. inline_is _ c.in-Inline.inline rest c.in-Inline.is)
    (took c.args.world c.args.object.now _ _ _ _ c.deref-in-Inline.ensures.value c.takes-in-Inline.ensures c.if-not-takes-3.false)
    (sym c.is_applicable.ensures ∙ c.if-not-is_applicable.false) (rw c.deref-in-Inline-2.ensures.value at c.in_ok-collect_set-in-Inline.ensures)

pub collect_set-collect_one-requires : goal.collect_set-collect_one-requires
collect_set-collect_one-requires t c =
    let p = way_one (definitions_in c.args.world) c.args.visited.now c.loop-selection.visited c.args.set.now c.loop-selection.selection-index c.selection-item.result c.loop-selection.invariant.within c.loop-selection-test.true c.selection-item.is in
    (omega (arith, c.requires), tt)

pub collect_set-loop-selection-preserved : goal.collect_set-loop-selection-preserved
collect_set-loop-selection-preserved t c =
    continues_next (setting_in c.args.world c.args.object.now) (definitions_in c.args.world) c.args.set.now c.loop-selection.selection-index c.selection-item.result _ _ _ _ _ _ c.loop-selection-test.true c.selection-item.is c.loop-selection.invariant c.in_ok-collect_one.ensures

pub collect_set-returns : goal.collect_set-returns
collect_set-returns t c =
    continues_last (setting_in c.args.world c.args.object.now) (definitions_in c.args.world) c.args.set.now c.loop-selection.selection-index _ _ _ _ c.loop-selection-test.false c.loop-selection.invariant

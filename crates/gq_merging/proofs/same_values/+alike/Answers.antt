use Rattle.std.proofs.Common.{rules, ◌≡◌, ◌↔◌, ◌<◌, ◌≤◌, ◌+◌, ◌∙◌, ◌++◌, ◌∷◌, [], IsTrue, true, length, map, get_or, set, take, refl, sym, ap, subst, arith}
use Rattle.std.proofs.lemmas.List.{take_more, take_all}
use Rattle.std.proofs.lemmas.Result.{IfOk-weaker}
use Rattle.std.specs.List.{list_all}
use Rattle.gq_names.specs.Repeats.{StandsAt}
use Rattle.gq_tree.specs.Views.{name_of, value_view, values_view}
use Rattle.gq_merging.specs.SameArguments.{AreInOrder}
use Rattle.gq_merging.specs.Helping.Entries.{entry_seen, entries_seen}
use Rattle.gq_merging.specs.Helping.Marks.{IsAmongThese, MarksSame}
use Rattle.gq_merging.proofs.EntryLemmas.{stands_seen, size_at}
use Rattle.gq_merging.proofs.MarkLemmas.{marks_begin, marks_set, marks_kept, marks_end, found_none, found_here, found_kept, found_end, there_at, all_more_at, sets_marked_at_end}
use Rattle.gq_merging.proofs.PlaceLemmas.{its_places}
use Rattle.gq_merging.proofs.IdentityLemmas.{variables_alike, ints_alike, floats_alike, strings_alike, booleans_alike, nulls_alike, enums_alike, lists_alike, objects_alike, no_variable, no_int, no_float, no_string, no_boolean, no_null, no_enum, no_list, no_object, order_apart, order_goes_on, order_stops, order_ends}
use Rattle.gq_merging.proofs.same_values.+alike.Goals.{mark_entries-then-same, mark_entries-else-same}
use Rattle.gq_merging.proofs.same_values.+alike.Goals as goal

pub are_identical-returns-in-Variable-Variable : goal.are_identical-returns-in-Variable-Variable
are_identical-returns-in-Variable-Variable t c =
    variables_alike c.in-Variable-Variable.left c.in-Variable-Variable.right c.args.left.now c.args.right.now c.have_same_text.result c.in-Variable-Variable.is-0 c.in-Variable-Variable.is-1 c.have_same_text.ensures

pub are_identical-returns-in-Int-Int : goal.are_identical-returns-in-Int-Int
are_identical-returns-in-Int-Int t c =
    ints_alike c.in-Int-Int.left c.in-Int-Int.right c.args.left.now c.args.right.now c.have_same_spelling.result c.in-Int-Int.is-0 c.in-Int-Int.is-1 c.have_same_spelling.ensures

pub are_identical-returns-in-Float-Float : goal.are_identical-returns-in-Float-Float
are_identical-returns-in-Float-Float t c =
    floats_alike c.in-Float-Float.left c.in-Float-Float.right c.args.left.now c.args.right.now c.have_same_spelling-in-Float-Float.result c.in-Float-Float.is-0 c.in-Float-Float.is-1 c.have_same_spelling-in-Float-Float.ensures

pub are_identical-returns-in-String-String : goal.are_identical-returns-in-String-String
are_identical-returns-in-String-String t c =
    IfOk-weaker c.are_same_strings.result _ _
    (λ is. strings_alike c.in-String-String.left c.in-String-String.right c.args.left.now c.args.right.now c.as_str.result.now c.as_str-in-String-String.result.now is c.in-String-String.is-0 c.in-String-String.is-1 c.as_str.ensures c.as_str-in-String-String.ensures)
    c.are_same_strings.ensures

pub are_identical-returns-in-Boolean-Boolean : goal.are_identical-returns-in-Boolean-Boolean
are_identical-returns-in-Boolean-Boolean t c =
    booleans_alike c.in-Boolean-Boolean.left c.in-Boolean-Boolean.right c.in-Boolean-Boolean.span-0 c.in-Boolean-Boolean.span-1 c.args.left.now c.args.right.now c.in-Boolean-Boolean.is-0 c.in-Boolean-Boolean.is-1

pub are_identical-returns-in-Null-Null : goal.are_identical-returns-in-Null-Null
are_identical-returns-in-Null-Null t c = nulls_alike c.in-Null-Null.span-0 c.in-Null-Null.span-1 c.args.left.now c.args.right.now c.in-Null-Null.is-0 c.in-Null-Null.is-1

pub are_identical-returns-in-Enum-Enum : goal.are_identical-returns-in-Enum-Enum
are_identical-returns-in-Enum-Enum t c =
    enums_alike c.in-Enum-Enum.left c.in-Enum-Enum.right c.args.left.now c.args.right.now c.have_same_text-in-Enum-Enum.result c.in-Enum-Enum.is-0 c.in-Enum-Enum.is-1 c.have_same_text-in-Enum-Enum.ensures

pub are_identical-returns-in-List-List : goal.are_identical-returns-in-List-List
are_identical-returns-in-List-List t c =
    IfOk-weaker c.are_in_order.result _ _
    (λ is. lists_alike c.in-List-List.left c.in-List-List.right c.in-List-List.span-0 c.in-List-List.span-1 c.args.left.now c.args.right.now c.deref.result.now c.deref-in-List-List.result.now is c.in-List-List.is-0 c.in-List-List.is-1 c.deref.ensures.value c.deref-in-List-List.ensures.value)
    c.are_in_order.ensures

pub are_identical-returns-in-Object-Object : goal.are_identical-returns-in-Object-Object
are_identical-returns-in-Object-Object t c =
    IfOk-weaker c.have_same_entries.result _ _
    (λ is. objects_alike c.in-Object-Object.left c.in-Object-Object.right c.in-Object-Object.span-0 c.in-Object-Object.span-1 c.args.left.now c.args.right.now c.deref-in-Object-Object.result.now c.deref-in-Object-Object-2.result.now is c.in-Object-Object.is-0 c.in-Object-Object.is-1 c.deref-in-Object-Object.ensures.value c.deref-in-Object-Object-2.ensures.value)
    c.have_same_entries.ensures

pub are_identical-returns-in_default : goal.are_identical-returns-in_default
are_identical-returns-in_default t c = no_variable c.in_default.field-0-0 c.args.left.now c.args.right.now c.in_default.is-0 c.in_default.not-Variable-1

pub are_identical-returns-in_default-2 : goal.are_identical-returns-in_default-2
are_identical-returns-in_default-2 t c = no_int c.in_default.field-0-0 c.args.left.now c.args.right.now c.in_default.is-0 c.in_default.not-Int-1

pub are_identical-returns-in_default-3 : goal.are_identical-returns-in_default-3
are_identical-returns-in_default-3 t c = no_float c.in_default.field-0-0 c.args.left.now c.args.right.now c.in_default.is-0 c.in_default.not-Float-1

pub are_identical-returns-in_default-4 : goal.are_identical-returns-in_default-4
are_identical-returns-in_default-4 t c = no_string c.in_default.field-0-0 c.args.left.now c.args.right.now c.in_default.is-0 c.in_default.not-String-1

pub are_identical-returns-in_default-5 : goal.are_identical-returns-in_default-5
are_identical-returns-in_default-5 t c = no_boolean c.in_default.field-0-0 c.in_default.field-1-0 c.args.left.now c.args.right.now c.in_default.is-0 c.in_default.not-Boolean-1

pub are_identical-returns-in_default-6 : goal.are_identical-returns-in_default-6
are_identical-returns-in_default-6 t c = no_null c.in_default.field-0-0 c.args.left.now c.args.right.now c.in_default.is-0 c.in_default.not-Null-1

pub are_identical-returns-in_default-7 : goal.are_identical-returns-in_default-7
are_identical-returns-in_default-7 t c = no_enum c.in_default.field-0-0 c.args.left.now c.args.right.now c.in_default.is-0 c.in_default.not-Enum-1

pub are_identical-returns-in_default-8 : goal.are_identical-returns-in_default-8
are_identical-returns-in_default-8 t c = no_list c.in_default.field-0-0 c.in_default.field-1-0 c.args.left.now c.args.right.now c.in_default.is-0 c.in_default.not-List-1

pub are_identical-returns-in_default-9 : goal.are_identical-returns-in_default-9
are_identical-returns-in_default-9 t c = no_object c.in_default.field-0-0 c.in_default.field-1-0 c.args.left.now c.args.right.now c.in_default.is-0 c.in_default.not-Object-1

pub are_in_order-returns-then-left-right : goal.are_in_order-returns-then-left-right
are_in_order-returns-then-left-right t c = order_apart c.args.left.now c.args.right.now c.if-left-right.true

pub are_in_order-returns-then-not-same : goal.are_in_order-returns-then-not-same
are_in_order-returns-then-not-same t c =
    let i = c.loop-i.i in
    let as_many : length c.args.left.now ≡ length c.args.right.now = search rules in
    let inside : i < length c.args.left.now = search rules in
    let other_inside : i < length c.args.right.now = search rules in
    let read : get_or c.args.left.now i c.index-left-i.result ≡ c.index-left-i.result = search rules in
    let other_read : get_or c.args.right.now i c.index-right-i.result ≡ c.index-right-i.result = search rules in
    order_stops c.args.left.now c.args.right.now i c.index-left-i.result c.index-right-i.result c.in_ok-same.same inside other_inside read other_read c.in_ok-same.ensures
    (AreInOrder (values_view c.args.left.now) (values_view c.args.right.now)) c.if-not-same.true c.loop-i.invariant

pub are_in_order-are_identical-requires : goal.are_in_order-are_identical-requires
are_in_order-are_identical-requires t c =
    let i = c.loop-i.i in
    let inside : i < length c.args.left.now = search rules in
    let read : get_or c.args.left.now i c.index-left-i.result ≡ c.index-left-i.result = search rules in
    let less = size_at (map value_view c.args.left.now) i (value_view c.index-left-i.result) (stands_seen value_view c.args.left.now i c.index-left-i.result inside read) in
    (omega (arith, less, c.decreases), tt)

pub are_in_order-loop-i-preserved : goal.are_in_order-loop-i-preserved
are_in_order-loop-i-preserved t c =
    let i = c.loop-i.i in
    let as_many : length c.args.left.now ≡ length c.args.right.now = search rules in
    let inside : i < length c.args.left.now = search rules in
    let other_inside : i < length c.args.right.now = search rules in
    let read : get_or c.args.left.now i c.index-left-i.result ≡ c.index-left-i.result = search rules in
    let other_read : get_or c.args.right.now i c.index-right-i.result ≡ c.index-right-i.result = search rules in
    order_goes_on c.args.left.now c.args.right.now i c.index-left-i.result c.index-right-i.result c.in_ok-same.same inside other_inside read other_read c.in_ok-same.ensures
    (AreInOrder (values_view c.args.left.now) (values_view c.args.right.now)) c.if-not-same.false c.loop-i.invariant

pub are_in_order-returns : goal.are_in_order-returns
are_in_order-returns t c =
    let as_many : length c.args.left.now ≡ length c.args.right.now = search rules in
    order_ends c.args.left.now c.args.right.now c.loop-i.i (AreInOrder (values_view c.args.left.now) (values_view c.args.right.now)) as_many c.loop-i-test.false c.loop-i.invariant

pub have_same_entries-mark_entries-requires : goal.have_same_entries-mark_entries-requires
have_same_entries-mark_entries-requires t c =
    let less = size_at (entries_seen c.args.left) c.loop-i.i (entry_seen c.at-entry.result) c.at-entry.ensures in (
      omega (arith, less, c.decreases),
      (
        c.loop-i.invariant.found.as_many,
        its_places (entries_seen c.args.right) _ c.loop-i.invariant.placed (entry_seen c.at-entry.result) (name_of c.at-entry.result.name.now) refl
            c.as_str.result.now c.as_str.ensures c.with_name-these.result.now c.with_name-these.ensures,
      ),
    )

pub have_same_entries-loop-i-preserved : goal.have_same_entries-loop-i-preserved
have_same_entries-loop-i-preserved t c = record {
  found = all_more_at (entries_seen c.args.left) (entries_seen c.args.right) c.loop-i.i (entry_seen c.at-entry.result) c.loop-i.marks.items c.mark_entries.new.marks.items c.at-entry.ensures
      c.loop-i.invariant.found (c.in_ok-found.ensures.found.0 c.if-not-found.false) c.in_ok-found.ensures.marks;
  placed = c.loop-i.invariant.placed;
}

pub have_same_entries-returns : goal.have_same_entries-returns
have_same_entries-returns t c =
    let end : length (entries_seen c.args.left) ≤ c.loop-i.i = search rules in
    sets_marked_at_end (entries_seen c.args.left) (entries_seen c.args.right) c.loop-i.i c.loop-i.marks.items c.are_all_marked.result
    end c.loop-i.invariant.found (c.are_all_marked.ensures ∙ ap (list_all (λ m. m)) c.deref.ensures.value)

pub mark_entries-loop-place-init : goal.mark_entries-loop-place-init
mark_entries-loop-place-init t c = record {
  found = found_none (entry_seen c.args.entry) (entries_seen c.args.others);
  marks = marks_begin (entry_seen c.args.entry) (entries_seen c.args.others) c.args.marks.now.items;
}

pub mark_entries-at-requires : goal.mark_entries-at-requires
mark_entries-at-requires t c =
    let inside : c.loop-place.place-index < length c.args.places.now = search rules in
    c.requires.places.within (get_or c.args.places.now c.loop-place.place-index 0) (there_at c.args.places.now c.loop-place.place-index inside)

pub mark_entries-loop-place-preserved : goal.mark_entries-loop-place-preserved
mark_entries-loop-place-preserved t c =
    let k = c.loop-place.place-index in
    let ps = take k c.args.places.now in
    let i = get_or c.args.places.now k 0 in
    let a = entry_seen c.args.entry in
    let b = entry_seen c.at.result in
    let bs = entries_seen c.args.others in
    let stands : StandsAt bs i b = c.at.ensures in
    let inside : k < length c.args.places.now = search rules in
    let more : take (k + 1) c.args.places.now ≡ ps ++ i ∷ [] = take_more c.args.places.now k 0 inside in
    elim c.if-same.branch [
      | mark_entries-then-same w ↦
          let marked : c.if-same.marks.items ≡ set c.loop-place.marks.items i true = search rules in
          let found : c.if-same.found ≡ true = search rules in
          let has_mark : i < length c.loop-place.marks.items = search rules in
          let is = c.in_ok-same.ensures.0 w.if-same.true in
          record {
            found = subst (λ qs. IsTrue c.if-same.found ↔ IsAmongThese a bs qs) (sym more) (subst (λ f. IsTrue f ↔ IsAmongThese a bs (ps ++ i ∷ [])) (sym found) (found_here a bs ps i b stands is));
            marks = subst (λ qs. MarksSame a bs qs c.args.marks.now.items c.if-same.marks.items) (sym more) (subst (λ v. MarksSame a bs (ps ++ i ∷ []) c.args.marks.now.items v) (sym marked)
                (marks_set a bs ps i b stands c.args.marks.now.items c.loop-place.marks.items is has_mark c.loop-place.invariant.marks));
          }
      | mark_entries-else-same w ↦
          let marked : c.if-same.marks.items ≡ c.loop-place.marks.items = search rules in
          let found : c.if-same.found ≡ c.loop-place.found = search rules in
          record {
            found = subst (λ qs. IsTrue c.if-same.found ↔ IsAmongThese a bs qs) (sym more) (subst (λ f. IsTrue f ↔ IsAmongThese a bs (ps ++ i ∷ [])) (sym found)
                (found_kept a bs ps i b stands c.loop-place.found c.in_ok-same.same c.in_ok-same.ensures w.if-same.false c.loop-place.invariant.found));
            marks = subst (λ qs. MarksSame a bs qs c.args.marks.now.items c.if-same.marks.items) (sym more) (subst (λ v. MarksSame a bs (ps ++ i ∷ []) c.args.marks.now.items v) (sym marked)
                (marks_kept a bs ps i b stands c.args.marks.now.items c.loop-place.marks.items c.in_ok-same.same c.in_ok-same.ensures w.if-same.false c.loop-place.invariant.marks));
          }
    ]

pub mark_entries-returns-clause-found : goal.mark_entries-returns-clause-found
mark_entries-returns-clause-found t c =
    let a = entry_seen c.args.entry in
    let bs = entries_seen c.args.others in
    let past : length c.args.places.now ≤ c.loop-place.place-index = search rules in
    found_end a bs c.args.places.now c.requires.places c.loop-place.found
    (subst (λ qs. IsTrue c.loop-place.found ↔ IsAmongThese a bs qs) (take_all c.loop-place.place-index c.args.places.now past) c.loop-place.invariant.found)

pub mark_entries-returns-clause-marks : goal.mark_entries-returns-clause-marks
mark_entries-returns-clause-marks t c =
    let a = entry_seen c.args.entry in
    let bs = entries_seen c.args.others in
    let past : length c.args.places.now ≤ c.loop-place.place-index = search rules in
    marks_end a bs c.args.places.now c.requires.places c.args.marks.now.items c.loop-place.marks.items
    (subst (λ qs. MarksSame a bs qs c.args.marks.now.items c.loop-place.marks.items) (take_all c.loop-place.place-index c.args.places.now past) c.loop-place.invariant.marks)

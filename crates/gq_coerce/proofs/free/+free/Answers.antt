use Rattle.std.proofs.Common.{◌≡◌, ◌+◌, ◌-◌, cond, Some, None, map, ap, sym, ◌∙◌, refl, subst, arith}
use Rattle.gq_tree.specs.Plain.{Val}
use Rattle.gq_table.specs.Views.{value_view}
use Rattle.gq_coerce.specs.Coerced.{null_value, items_of, entries_of, list_value, object_value}
use Rattle.gq_coerce.specs.Literals.{at_any}
use Rattle.gq_coerce.specs.Helping.Views.{coerced_view, setting_view}
use Rattle.gq_coerce.specs.Helping.Readings.{read_value}
use Rattle.gq_coerce.specs.Helping.Order.{in_order}
use Rattle.gq_coerce.proofs.FormLemmas.{list_form, object_form}
use Rattle.gq_coerce.proofs.Loops.{AreFrom, items_begin, items_more, items_fault, items_end, entries_begin, entries_more, entries_fault, entries_end}
use Rattle.gq_coerce.proofs.Readings.{item_part, field_part, items_read, fields_read}
use Rattle.gq_coerce.proofs.free.+free.Goals as goal

pub free_items-loop-item-init : goal.free_items-loop-item-init
free_items-loop-item-init t c = items_begin null_value (item_part (setting_view c.args.setting) at_any) c.args.items.now _ (ap (map value_view) c.new-values.ensures.items)

pub free_items-loop-item-preserved : goal.free_items-loop-item-preserved
free_items-loop-item-preserved t c =
    items_more null_value (item_part (setting_view c.args.setting) at_any) c.args.items.now c.loop-item.item-index c.item-item.result (map value_view c.loop-item.values.items) (map value_view c.add_item.new.items.items) (coerced_view c.in_ok-coerced.coerced)
    c.loop-item-test.true c.item-item.is c.in_ok-coerced.ensures (ap (λ b. cond b (Some (map value_view c.add_item.new.items.items)) None) (sym c.if-not-branch.false) ∙ c.in_ok-add_item.ensures) c.loop-item.invariant

pub free_items-returns-then-not-branch : goal.free_items-returns-then-not-branch
free_items-returns-then-not-branch t c =
    let s = setting_view c.args.setting in
    sym (items_fault null_value (item_part s at_any) c.args.items.now c.loop-item.item-index c.item-item.result (map value_view c.loop-item.values.items) (coerced_view c.in_ok-coerced.coerced)
    c.loop-item-test.true c.item-item.is c.in_ok-coerced.ensures (ap (λ b. cond b (Some (map value_view c.add_item.new.items.items)) None) (sym c.if-not-branch.true) ∙ c.in_ok-add_item.ensures) c.loop-item.invariant)
    ∙ ap (items_of null_value) (sym (items_read s at_any c.args.items.now))

pub free_items-returns : goal.free_items-returns
free_items-returns t c =
    let s = setting_view c.args.setting in
    sym (items_end null_value (item_part s at_any) c.args.items.now c.loop-item.item-index (map value_view c.loop-item.values.items) c.loop-item-test.false c.loop-item.invariant)
    ∙ ap (items_of null_value) (sym (items_read s at_any c.args.items.now))

pub free_entries-fields-init : goal.free_entries-fields-init
free_entries-fields-init t c = (entries_begin (field_part (setting_view c.args.setting) at_any) c.args.fields.now _ _ (ap in_order c.new-entries.ensures.items) refl, omega arith)

pub free_entries-fields-preserved : goal.free_entries-fields-preserved
free_entries-fields-preserved t c =
    let f = field_part (setting_view c.args.setting) at_any in
    let xs = c.args.fields.now in
    let old = in_order c.fields.entries.items in
    let new = in_order c.put_coerced.new.entries.items in
    let back : c.fields.left ≡ c.fields.left - 1 + 1 = omega arith in (
      entries_more f xs (c.fields.left - 1) c.index-fields-left.result c.as_str.result.now old (coerced_view c.in_ok-coerced.coerced) (omega (arith, c.fields.invariant.1, c.fields-test.true)) c.index-fields-left.is (ap Some (sym c.as_str.ensures)) c.in_ok-coerced.ensures
          (subst (λ n. AreFrom f xs old n) back c.fields.invariant.0) new (ap (λ b. cond b (Some new) None) (sym c.if-not-branch.false) ∙ c.in_ok-put_coerced.ensures),
      omega (arith, c.fields.invariant.1),
    )

pub free_entries-returns-then-not-branch : goal.free_entries-returns-then-not-branch
free_entries-returns-then-not-branch t c =
    let s = setting_view c.args.setting in
    let f = field_part s at_any in
    let xs = c.args.fields.now in
    let old = in_order c.fields.entries.items in
    let new = in_order c.put_coerced.new.entries.items in
    let back : c.fields.left ≡ c.fields.left - 1 + 1 = omega arith in
    sym (entries_fault f xs (c.fields.left - 1) c.index-fields-left.result c.as_str.result.now old (coerced_view c.in_ok-coerced.coerced) (omega (arith, c.fields.invariant.1, c.fields-test.true)) c.index-fields-left.is (ap Some (sym c.as_str.ensures)) c.in_ok-coerced.ensures
    (subst (λ n. AreFrom f xs old n) back c.fields.invariant.0) (ap (λ b. cond b (Some new) None) (sym c.if-not-branch.true) ∙ c.in_ok-put_coerced.ensures))
    ∙ ap entries_of (sym (fields_read s at_any xs))

pub free_entries-returns : goal.free_entries-returns
free_entries-returns t c =
    let s = setting_view c.args.setting in
    let f = field_part s at_any in
    let xs = c.args.fields.now in
    let last : c.fields.left ≡ 0 = omega (arith, c.fields-test.false) in
    ap Some c.in_ok-in_order.ensures ∙ entries_end f xs (in_order c.fields.entries.items) (subst (λ n. AreFrom f xs (in_order c.fields.entries.items) n) last c.fields.invariant.0) ∙ ap entries_of (sym (fields_read s at_any xs))

pub free_value-returns-in_ok-items-in-List : goal.free_value-returns-in_ok-items-in-List
free_value-returns-in_ok-items-in-List t c =
    c.list_of.ensures ∙ ap list_value c.in_ok-items-in-List.ensures
    ∙ sym (ap (λ (v : Val (Unit {0})). read_value (setting_view c.args.setting) at_any v) (list_form c.args.literal.now c.in-List.items c.in-List.span c.deref.result.now c.in-List.is c.deref.ensures.value))

pub free_value-returns-in_ok-entries-in-Object : goal.free_value-returns-in_ok-entries-in-Object
free_value-returns-in_ok-entries-in-Object t c =
    c.object_of.ensures ∙ ap object_value c.in_ok-entries-in-Object.ensures
    ∙ sym (ap (λ (v : Val (Unit {0})). read_value (setting_view c.args.setting) at_any v) (object_form c.args.literal.now c.in-Object.fields c.in-Object.span c.deref-in-Object.result.now c.in-Object.is c.deref-in-Object.ensures.value))

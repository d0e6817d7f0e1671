use Rattle.std.proofs.Common.{◌≡◌, ◌+◌, ◌-◌, cond, Some, None, map, ap, sym, ◌∙◌, subst, arith}
use Rattle.std.proofs.lemmas.Result.{IfOk-weaker}
use Rattle.gq_tree.specs.Views.{type_view}
use Rattle.gq_types.specs.Joined.{kind_named}
use Rattle.gq_meaning.specs.Values as value
use Rattle.gq_table.specs.Views.{value_view, values_view, entries_view}
use Rattle.gq_table.proofs.Trees.{view_leaf, view_enum, view_list, view_object}
use Rattle.gq_coerce.specs.Coerced.{fault, given, alone, items_of, entries_of, list_value, object_value}
use Rattle.gq_coerce.specs.Literals.{inputs_from}
use Rattle.gq_coerce.specs.Variables.{at_name, read_all, input_value}
use Rattle.gq_coerce.specs.Helping.Views.{coerced_view, setting_view, inputs_view, type_seen}
use Rattle.gq_coerce.specs.Helping.Order.{in_order}
use Rattle.gq_coerce.proofs.Trees.{unnamed_view}
use Rattle.gq_coerce.proofs.Loops.{AreFrom, items_fault, items_end, entries_more, entries_fault, entries_end}
use Rattle.gq_coerce.proofs.RawReadings.{raw_part, raw_items_read, raw_input_of, raw_inputs_read, raw_reads, is_raw_single, raw_single, raw_list, raw_list_named, raw_object, raw_custom, raw_item_lower, entry_call}
use Rattle.gq_coerce.proofs.raw.+raw.Goals as goal

pub at_name-returns-in_ok-copied-in-Some-Scalar : goal.at_name-returns-in_ok-copied-in-Some-Scalar
at_name-returns-in_ok-copied-in-Some-Scalar t c =
    let v = value_view c.args.value.now in
    ap given (c.in_ok-copied-in-Some-Scalar.ensures ∙ sym (unnamed_view c.args.value.now))
    ∙ raw_custom (setting_view c.args.setting) v c.args.name.now c.kind.result c.kind.ensures (c.in-Some-Scalar.is ∙ ap Some c.in-Some-Scalar.field-0-is) (sym c.is_built_in_scalar.ensures ∙ c.if-is_built_in_scalar.false)

pub at_name-returns-in_ok-entries-in-Some : goal.at_name-returns-in_ok-entries-in-Some
at_name-returns-in_ok-entries-in-Some t c =
    let s = setting_view c.args.setting in
    let v = value_view c.args.value.now in
    let entries = entries_view c.in-Some.entries.now in
    c.object_of.ensures ∙ ap object_value (c.in_ok-entries-in-Some.ensures ∙ ap (λ is. entries_of (inputs_from s is (read_all s entries))) (ap inputs_view c.deref.ensures.value ∙ c.in_ok-definitions-in-Some.ensures))
    ∙ raw_object s v c.args.name.now c.kind.result c.kind.ensures (c.in-Some-InputObject.is ∙ ap Some c.in-Some-InputObject.field-0-is) entries c.in-Some.ensures.some (sym c.has_unknown.ensures ∙ c.if-has_unknown.false)

pub raw_entries-raw_input-requires : goal.raw_entries-raw_input-requires
raw_entries-raw_input-requires t c =
    let falls = entry_call c.as_str-name.result.now c.args.given.now c.entry_named-value.result c.entry_named-value.ensures in
    (omega (arith, falls, c.decreases), tt)

pub raw_entries-inputs-preserved : goal.raw_entries-inputs-preserved
raw_entries-inputs-preserved t c =
    let s = setting_view c.args.setting in
    let f = raw_input_of s c.args.given.now in
    let xs = c.args.definitions.now in
    let d = c.index-definitions-left.result in
    let old = in_order c.inputs.entries.items in
    let new = in_order c.put_coerced.new.entries.items in
    let back : c.inputs.left ≡ c.inputs.left - 1 + 1 = omega arith in
    let reads = raw_reads s c.args.given.now d c.as_str-name.result.now c.entry_named-value.result (coerced_view c.in_ok-coerced.coerced) c.as_str-name.ensures c.entry_named-value.ensures c.in_ok-coerced.ensures in (
      entries_more f xs (c.inputs.left - 1) d c.as_str-name.result.now old (coerced_view c.in_ok-coerced.coerced) (omega (arith, c.inputs.invariant.1, c.inputs-test.true)) c.index-definitions-left.is (ap Some (sym c.as_str-name.ensures)) reads
          (subst (λ n. AreFrom f xs old n) back c.inputs.invariant.0) new (ap (λ b. cond b (Some new) None) (sym c.if-not-branch.false) ∙ c.in_ok-put_coerced.ensures),
      omega (arith, c.inputs.invariant.1),
    )

pub raw_entries-returns-then-not-branch : goal.raw_entries-returns-then-not-branch
raw_entries-returns-then-not-branch t c =
    let s = setting_view c.args.setting in
    let f = raw_input_of s c.args.given.now in
    let xs = c.args.definitions.now in
    let d = c.index-definitions-left.result in
    let old = in_order c.inputs.entries.items in
    let new = in_order c.put_coerced.new.entries.items in
    let back : c.inputs.left ≡ c.inputs.left - 1 + 1 = omega arith in
    let reads = raw_reads s c.args.given.now d c.as_str-name.result.now c.entry_named-value.result (coerced_view c.in_ok-coerced.coerced) c.as_str-name.ensures c.entry_named-value.ensures c.in_ok-coerced.ensures in
    sym (entries_fault f xs (c.inputs.left - 1) d c.as_str-name.result.now old (coerced_view c.in_ok-coerced.coerced) (omega (arith, c.inputs.invariant.1, c.inputs-test.true)) c.index-definitions-left.is (ap Some (sym c.as_str-name.ensures)) reads
    (subst (λ n. AreFrom f xs old n) back c.inputs.invariant.0) (ap (λ b. cond b (Some new) None) (sym c.if-not-branch.true) ∙ c.in_ok-put_coerced.ensures))
    ∙ ap entries_of (raw_inputs_read s c.args.given.now xs)

pub raw_entries-returns : goal.raw_entries-returns
raw_entries-returns t c =
    let s = setting_view c.args.setting in
    let f = raw_input_of s c.args.given.now in
    let xs = c.args.definitions.now in
    let last : c.inputs.left ≡ 0 = omega (arith, c.inputs-test.false) in
    ap Some c.in_ok-in_order.ensures ∙ entries_end f xs (in_order c.inputs.entries.items) (subst (λ n. AreFrom f xs (in_order c.inputs.entries.items) n) last c.inputs.invariant.0) ∙ ap entries_of (raw_inputs_read s c.args.given.now xs)

pub raw_items-raw_value-requires : goal.raw_items-raw_value-requires
raw_items-raw_value-requires t c =
    let falls = raw_item_lower c.args.items.now c.loop-item.item-index c.item-item.result c.loop-item-test.true c.item-item.is in
    (omega (arith, falls, c.decreases), tt)

pub raw_items-returns-then-not-branch : goal.raw_items-returns-then-not-branch
raw_items-returns-then-not-branch t c =
    let s = setting_view c.args.setting in
    let u = type_view c.args.type_ref.now in
    sym (items_fault fault (raw_part s u) c.args.items.now c.loop-item.item-index c.item-item.result (map value_view c.loop-item.values.items) (coerced_view c.in_ok-coerced.coerced) c.loop-item-test.true c.item-item.is c.in_ok-coerced.ensures
    (ap (λ b. cond b (Some (map value_view c.add_item.new.items.items)) None) (sym c.if-not-branch.true) ∙ c.in_ok-add_item.ensures) c.loop-item.invariant)
    ∙ ap (items_of fault) (sym (raw_items_read s u c.args.items.now))

pub raw_items-returns : goal.raw_items-returns
raw_items-returns t c =
    let s = setting_view c.args.setting in
    let u = type_view c.args.type_ref.now in
    sym (items_end fault (raw_part s u) c.args.items.now c.loop-item.item-index (map value_view c.loop-item.values.items) c.loop-item-test.false c.loop-item.invariant)
    ∙ ap (items_of fault) (sym (raw_items_read s u c.args.items.now))

pub raw_value-returns-in-Leaf : goal.raw_value-returns-in-Leaf
raw_value-returns-in-Leaf t c =
    let v = value_view c.args.value.now in
    IfOk-weaker c.single.result _ (λ r. coerced_view r ≡ input_value (setting_view c.args.setting) (type_view c.args.type_ref.now) v)
    (λ r is. is ∙ sym (raw_single (setting_view c.args.setting) (type_view c.args.type_ref.now) v (ap (λ x. is_raw_single (value_view x).label.says) c.in-Leaf.is ∙ ap (λ (w : value.Value). is_raw_single w.label.says) (view_leaf c.in-Leaf.field-0)))) c.single.ensures

pub raw_value-returns-in-Enum : goal.raw_value-returns-in-Enum
raw_value-returns-in-Enum t c =
    let v = value_view c.args.value.now in
    IfOk-weaker c.single-in-Enum.result _ (λ r. coerced_view r ≡ input_value (setting_view c.args.setting) (type_view c.args.type_ref.now) v)
    (λ r is. is ∙ sym (raw_single (setting_view c.args.setting) (type_view c.args.type_ref.now) v (ap (λ x. is_raw_single (value_view x).label.says) c.in-Enum.is ∙ ap (λ (w : value.Value). is_raw_single w.label.says) (view_enum c.in-Enum.field-0)))) c.single-in-Enum.ensures

pub raw_value-returns-in-Object : goal.raw_value-returns-in-Object
raw_value-returns-in-Object t c =
    let v = value_view c.args.value.now in
    IfOk-weaker c.single-in-Object.result _ (λ r. coerced_view r ≡ input_value (setting_view c.args.setting) (type_view c.args.type_ref.now) v)
    (λ r is. is ∙ sym (raw_single (setting_view c.args.setting) (type_view c.args.type_ref.now) v (ap (λ x. is_raw_single (value_view x).label.says) c.in-Object.is ∙ ap (λ (w : value.Value). is_raw_single w.label.says) (view_object c.in-Object.field-0)))) c.single-in-Object.ensures

pub raw_value-returns-in_ok-items-in-Some : goal.raw_value-returns-in_ok-items-in-Some
raw_value-returns-in_ok-items-in-Some t c =
    let form : value_view c.args.value.now ≡ alone value.list (values_view c.deref.result.now) =
    ap value_view c.in-List.is ∙ view_list c.in-List.items ∙ ap (λ vs. alone value.list (values_view vs)) (sym c.deref.ensures.value) in
    c.list_of.ensures ∙ ap list_value c.in_ok-items-in-Some.ensures
    ∙ sym (raw_list (setting_view c.args.setting) (type_view c.args.type_ref.now) (value_view c.args.value.now) (values_view c.deref.result.now) (type_view c.in-Some.item.now) form (sym c.item_type.ensures ∙ ap type_seen c.in-Some.is))

pub raw_value-returns-in-None : goal.raw_value-returns-in-None
raw_value-returns-in-None t c =
    let s = setting_view c.args.setting in
    let u = type_view c.args.type_ref.now in
    let v = value_view c.args.value.now in
    let form : v ≡ alone value.list (values_view c.in-List.items.items) = ap value_view c.in-List.is ∙ view_list c.in-List.items in
    IfOk-weaker c.at_name.result _ (λ r. coerced_view r ≡ input_value s u v)
    (λ r is. is ∙ ap (λ n. at_name s n (kind_named s.entries n) v.label.says v.below (read_all s v.below)) c.base_name.ensures ∙ sym (raw_list_named s u v (values_view c.in-List.items.items) form (sym c.item_type.ensures ∙ ap type_seen c.in-None.is))) c.at_name.ensures

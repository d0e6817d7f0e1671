use Rattle.std.proofs.Common.{◌≡◌, ◌+◌, ◌-◌, cond, not, Some, None, map, ap, sym, ◌∙◌, subst, arith}
use Rattle.std.specs.Option.{option_map}
use Rattle.std.proofs.lemmas.Result.{IfOk-weaker}
use Rattle.gq_tree.specs.Forest.{row}
use Rattle.gq_tree.specs.Views.{value_view, type_view}
use Rattle.std.specs.List.{find}
use Rattle.std.specs.Str.{bytes_eq}
use Rattle.gq_types.specs.Joined.{kind_named}
use Rattle.gq_tree.specs.Wrapping.{is_non_null}
use Rattle.gq_types.specs.Look.{types_view}
use Rattle.gq_table.specs.Views.{value_view as given_value}
use Rattle.gq_table.proofs.Trees.{view_null}
use Rattle.gq_coerce.specs.Coerced.{absent, fault, given, null_value, items_of, entries_of, list_value, object_value}
use Rattle.gq_coerce.specs.Literals.{at_type, at_name, read_all, missing_item, or_default, input_fields, inputs_from, literal_value, unless_null}
use Rattle.gq_coerce.specs.Helping.Views.{bare, coerced_view, setting_view, variables_in, inputs_view, part_view, value_seen, type_seen}
use Rattle.gq_coerce.specs.Helping.Heights.{given_weight, default_weight, height_of}
use Rattle.gq_coerce.specs.Helping.Wrapping.{wrapped_to}
use Rattle.gq_coerce.specs.Helping.Readings.{item_after}
use Rattle.gq_coerce.specs.Helping.Order.{in_order}
use Rattle.gq_coerce.proofs.FormLemmas.{literal_null, literal_list, literal_named, literal_single, object_at, default_entered, missing_is}
use Rattle.gq_coerce.proofs.HeightLemmas.{fields_call, input_call, given_call, item_call, default_call}
use Rattle.gq_coerce.proofs.Loops.{AreFrom, items_fault, items_end, entries_more, entries_fault, entries_end}
use Rattle.gq_coerce.proofs.Readings.{item_part, items_read, input_of, inputs_read, input_reads}
use Rattle.gq_coerce.proofs.literals.+literals.Goals as goal

pub at_name-input_entries-requires : goal.at_name-input_entries-requires
at_name-input_entries-requires t c =
    let falls = fields_call (types_view c.args.setting.types.now) c.args.setting.limit (bare c.args.literal.now) c.args.name.now _ c.deref-in-Some.result.now (inputs_view c.deref.result.now)
    c.in-Some.ensures.some (ap (map part_view) c.deref-in-Some.ensures.value ∙ c.in_ok-parts-in-Some.ensures) (ap inputs_view c.deref.ensures.value ∙ c.in_ok-definitions-in-Some.ensures) in
    (omega (arith, falls, c.requires.1.0), tt)

pub at_name-returns-in_ok-entries-in-Some : goal.at_name-returns-in_ok-entries-in-Some
at_name-returns-in_ok-entries-in-Some t c =
    let s = setting_view c.args.setting in
    c.object_of.ensures ∙ ap object_value (c.in_ok-entries-in-Some.ensures
    ∙ ap (λ is. entries_of (inputs_from s is (λ u. read_all s (row (map part_view c.deref-in-Some.result.now)) (at_type u)))) (ap inputs_view c.deref.ensures.value ∙ c.in_ok-definitions-in-Some.ensures)
    ∙ ap (λ fs. entries_of (inputs_from s (input_fields s.entries c.args.name.now) (λ u. read_all s (row fs) (at_type u)))) (ap (map part_view) c.deref-in-Some.ensures.value ∙ c.in_ok-parts-in-Some.ensures))
    ∙ object_at s (bare c.args.literal.now) c.args.name.now c.kind.result _ c.kind.ensures (c.in-Some-InputObject.is ∙ ap Some c.in-Some-InputObject.field-0-is) c.in-Some.ensures.some

pub default_value-literal_value-requires : goal.default_value-literal_value-requires
default_value-literal_value-requires t c =
    let falls = default_call (types_view c.args.setting.types.now) (types_view c.within.result.types.now) c.args.setting.limit c.within.result.limit c.args.default.now c.in-Some.literal c.within.ensures.types c.within.ensures.limit c.if-setting-eq0.false c.in-Some.is in
    (omega (arith, falls, c.decreases), tt)

pub default_value-returns-else-setting-eq0 : goal.default_value-returns-else-setting-eq0
default_value-returns-else-setting-eq0 t c =
    let s = setting_view c.args.setting in
    let u = type_view c.args.type_ref.now in
    IfOk-weaker c.literal_value.result _ (λ r. coerced_view r ≡ or_default s u (option_map value_view c.args.default.now) absent)
    (λ r is. is ∙ default_entered (types_view c.args.setting.types.now) (types_view c.within.result.types.now) (variables_in c.within.result.variables) c.args.setting.limit c.within.result.limit u (value_view c.in-Some.literal)
    c.within.ensures.types c.within.ensures.variables c.within.ensures.limit c.if-setting-eq0.false ∙ ap (λ o. or_default s u (option_map value_view o) absent) (sym c.in-Some.is)) c.literal_value.ensures

pub input_entries-input_value-requires : goal.input_entries-input_value-requires
input_entries-input_value-requires t c =
    let d = c.index-definitions-left.result in
    let falls = input_call (types_view c.args.setting.types.now) c.args.setting.limit c.as_str-name.result.now c.args.parts.now c.args.definitions.now (c.inputs.left - 1) d (value_seen c.part_named-literal.result) c.part_named-literal.ensures
    (omega (arith, c.inputs.invariant.1, c.inputs-test.true)) c.index-definitions-left.is in
    (omega (arith, falls, c.decreases), tt)

pub input_entries-inputs-preserved : goal.input_entries-inputs-preserved
input_entries-inputs-preserved t c =
    let s = setting_view c.args.setting in
    let f = input_of s c.args.parts.now in
    let xs = c.args.definitions.now in
    let d = c.index-definitions-left.result in
    let old = in_order c.inputs.entries.items in
    let new = in_order c.put_coerced.new.entries.items in
    let back : c.inputs.left ≡ c.inputs.left - 1 + 1 = omega arith in
    let reads = input_reads s c.args.parts.now d (value_seen c.part_named-literal.result) (coerced_view c.in_ok-coerced.coerced)
    (c.part_named-literal.ensures ∙ ap (λ n. option_map (λ p. value_view p.value.now) (find (λ p. bytes_eq n p.name.now) c.args.parts.now)) c.as_str-name.ensures) c.in_ok-coerced.ensures in (
      entries_more f xs (c.inputs.left - 1) d c.as_str-name.result.now old (coerced_view c.in_ok-coerced.coerced) (omega (arith, c.inputs.invariant.1, c.inputs-test.true)) c.index-definitions-left.is (ap Some (sym c.as_str-name.ensures)) reads
          (subst (λ n. AreFrom f xs old n) back c.inputs.invariant.0) new (ap (λ b. cond b (Some new) None) (sym c.if-not-branch.false) ∙ c.in_ok-put_coerced.ensures),
      omega (arith, c.inputs.invariant.1),
    )

pub input_entries-returns-then-not-branch : goal.input_entries-returns-then-not-branch
input_entries-returns-then-not-branch t c =
    let s = setting_view c.args.setting in
    let f = input_of s c.args.parts.now in
    let xs = c.args.definitions.now in
    let d = c.index-definitions-left.result in
    let old = in_order c.inputs.entries.items in
    let new = in_order c.put_coerced.new.entries.items in
    let back : c.inputs.left ≡ c.inputs.left - 1 + 1 = omega arith in
    let reads = input_reads s c.args.parts.now d (value_seen c.part_named-literal.result) (coerced_view c.in_ok-coerced.coerced)
    (c.part_named-literal.ensures ∙ ap (λ n. option_map (λ p. value_view p.value.now) (find (λ p. bytes_eq n p.name.now) c.args.parts.now)) c.as_str-name.ensures) c.in_ok-coerced.ensures in
    sym (entries_fault f xs (c.inputs.left - 1) d c.as_str-name.result.now old (coerced_view c.in_ok-coerced.coerced) (omega (arith, c.inputs.invariant.1, c.inputs-test.true)) c.index-definitions-left.is (ap Some (sym c.as_str-name.ensures)) reads
    (subst (λ n. AreFrom f xs old n) back c.inputs.invariant.0) (ap (λ b. cond b (Some new) None) (sym c.if-not-branch.true) ∙ c.in_ok-put_coerced.ensures))
    ∙ ap entries_of (inputs_read s c.args.parts.now xs)

pub input_entries-returns : goal.input_entries-returns
input_entries-returns t c =
    let s = setting_view c.args.setting in
    let f = input_of s c.args.parts.now in
    let xs = c.args.definitions.now in
    let last : c.inputs.left ≡ 0 = omega (arith, c.inputs-test.false) in
    ap Some c.in_ok-in_order.ensures ∙ entries_end f xs (in_order c.inputs.entries.items) (subst (λ n. AreFrom f xs (in_order c.inputs.entries.items) n) last c.inputs.invariant.0) ∙ ap entries_of (inputs_read s c.args.parts.now xs)

pub input_value-literal_value-requires : goal.input_value-literal_value-requires
input_value-literal_value-requires t c =
    let es = types_view c.args.setting.types.now in
    let w = default_weight es c.args.setting.limit (height_of (option_map value_view c.args.definition.now.default)) in
    let falls = given_call es c.args.setting.limit w c.in-Some.literal.now in
    let same = ap (λ o. given_weight es c.args.setting.limit (value_seen o)) c.in-Some.is in
    (omega (arith, falls, same, c.decreases), tt)

pub list_items-literal_value-requires : goal.list_items-literal_value-requires
list_items-literal_value-requires t c =
    let falls = item_call (types_view c.args.setting.types.now) c.args.setting.limit c.args.items.now c.loop-item.item-index c.item-item.result c.loop-item-test.true c.item-item.is in
    (omega (arith, falls, c.decreases), tt)

pub list_items-returns-then-not-branch : goal.list_items-returns-then-not-branch
list_items-returns-then-not-branch t c =
    let s = setting_view c.args.setting in
    let u = type_view c.args.type_ref.now in
    let old = map given_value c.loop-item.values.items in
    let coerced = coerced_view c.in_ok-coerced.coerced in
    let missing = ap (λ b. cond (not b) null_value fault) c.is_non_null-has_null.ensures ∙ missing_is (is_non_null u) in
    sym (items_fault (missing_item u) (item_part s (at_type u)) c.args.items.now c.loop-item.item-index c.item-item.result old coerced c.loop-item-test.true c.item-item.is c.in_ok-coerced.ensures
    (ap (λ b. cond b (Some (map given_value c.add_item.new.items.items)) None) (sym c.if-not-branch.true) ∙ c.in_ok-add_item.ensures ∙ ap (λ m. item_after old m coerced) missing) c.loop-item.invariant)
    ∙ ap (items_of (missing_item u)) (sym (items_read s (at_type u) c.args.items.now))

pub list_items-returns : goal.list_items-returns
list_items-returns t c =
    let s = setting_view c.args.setting in
    let u = type_view c.args.type_ref.now in
    sym (items_end (missing_item u) (item_part s (at_type u)) c.args.items.now c.loop-item.item-index (map given_value c.loop-item.values.items) c.loop-item-test.false c.loop-item.invariant)
    ∙ ap (items_of (missing_item u)) (sym (items_read s (at_type u) c.args.items.now))

pub literal_value-returns-in-Null : goal.literal_value-returns-in-Null
literal_value-returns-in-Null t c =
    let u = type_view c.args.type_ref.now in
    c.unless_null-in-Null.ensures ∙ ap (unless_null u) (ap given view_null) ∙ sym (literal_null (setting_view c.args.setting) u (bare c.args.literal.now) c.in-Null.ensures)

pub literal_value-returns-in_ok-items-in-Some : goal.literal_value-returns-in_ok-items-in-Some
literal_value-returns-in_ok-items-in-Some t c =
    c.list_of.ensures ∙ ap list_value c.in_ok-items-in-Some.ensures
    ∙ sym (literal_list (setting_view c.args.setting) (type_view c.args.type_ref.now) (bare c.args.literal.now) (row (map bare c.in-List.items.now)) (type_view c.in-Some.item.now) c.in-List.ensures (sym c.item_type.ensures ∙ ap type_seen c.in-Some.is))

pub literal_value-returns-in-None : goal.literal_value-returns-in-None
literal_value-returns-in-None t c =
    let s = setting_view c.args.setting in
    let u = type_view c.args.type_ref.now in
    let v = bare c.args.literal.now in
    IfOk-weaker c.at_name.result _ (λ r. coerced_view r ≡ literal_value s u v)
    (λ r is. is ∙ ap (λ n. at_name s n (kind_named s.entries n) v.label.says (read_all s v.below)) c.base_name.ensures
    ∙ sym (literal_named s u v (row (map bare c.in-List.items.now)) c.in-List.ensures (sym c.item_type.ensures ∙ ap type_seen c.in-None.is))) c.at_name.ensures

pub literal_value-returns-in_ok-value-in-Single : goal.literal_value-returns-in_ok-value-in-Single
literal_value-returns-in_ok-value-in-Single t c =
    let s = setting_view c.args.setting in
    let u = type_view c.args.type_ref.now in
    let v = bare c.args.literal.now in
    IfOk-weaker c.wrapped_to.result _ (λ r. coerced_view r ≡ literal_value s u v)
    (λ r is. is ∙ ap (wrapped_to u) (c.in_ok-value-in-Single.ensures ∙ ap (λ n. at_name s n (kind_named s.entries n) v.label.says (read_all s v.below)) c.base_name-in-Single.ensures) ∙ sym (literal_single s u v c.in-Single.ensures)) c.wrapped_to.ensures

use Rattle.std.proofs.Common.{◌++◌, ◌+◌, drop, ap, sym, ◌∙◌}
use Rattle.gq_tree.specs.Views.{type_view, value_view, values_view, entries_view}
use Rattle.gq_type_system.specs.Helping.DefaultValuesPlaces.{led_in, below_of, gathered, gathered_of, field_type}
use Rattle.gq_types.specs.Look.{types_view}
use Rattle.gq_values.specs.Literals.{input_object_at}
use Rattle.gq_type_system.proofs.Numbering.{fields_step}
use Rattle.gq_type_system.proofs.GatheringSteps.{items_more, fields_more}
use Rattle.gq_type_system.proofs.ReadingLemmas.{field_type_is}
use Rattle.gq_type_system.proofs.default_values.+defaults.Goals as goal

pub put_items-loop-value-preserved : goal.put_items-loop-value-preserved
put_items-loop-value-preserved t c =
    let es = types_view c.args.types.now in
    let at = led_in es c.args.all.now in
    let more = items_more es at (type_view c.args.expected.now) c.args.items.now c.loop-value.value-index c.value-item.result c.loop-value-test.true c.value-item.is in
    let put = c.in_ok-put_value.ensures ∙ ap (λ o. c.loop-value.row.items ++ gathered_of es at o (value_view c.value-item.result)) c.item_type-item.ensures in
    fields_step c.loop-value.row.items c.put_value.new.row.items _ _ (gathered es at (below_of es (type_view c.args.expected.now)) (values_view (drop (c.loop-value.value-index + 1) c.args.items.now))) put
    (ap (λ ns. c.loop-value.row.items ++ ns) (sym more) ∙ c.loop-value.invariant)

pub put_fields-loop-field-preserved : goal.put_fields-loop-field-preserved
put_fields-loop-field-preserved t c =
    let es = types_view c.args.types.now in
    let at = led_in es c.args.all.now in
    let more = fields_more es at (type_view c.args.expected.now) c.args.given.now c.loop-field.field-index c.field-item.result c.loop-field-test.true c.field-item.is in
    let read = c.field_type-expected.ensures ∙ ap (λ o. field_type es o c.as_str.result.now) c.input_object_at-type_name.ensures
    ∙ ap (field_type es _) c.as_str.ensures ∙ sym (field_type_is es (input_object_at es (type_view c.args.expected.now)) c.field-item.result.name.text) in
    let put = c.in_ok-put_value.ensures ∙ ap (λ o. c.loop-field.row.items ++ gathered_of es at o (value_view c.field-item.result.value)) read in
    fields_step c.loop-field.row.items c.put_value.new.row.items _ _ (gathered es at (below_of es (type_view c.args.expected.now)) (entries_view (drop (c.loop-field.field-index + 1) c.args.given.now))) put
    (ap (λ ns. c.loop-field.row.items ++ ns) (sym more) ∙ c.loop-field.invariant)

use Rattle.std.proofs.Common.{◌++◌}
use Rattle.std.proofs.lemmas.Result.{on_ok_weaker}
use Rattle.gq_tree.specs.Views.{value_view}
use Rattle.gq_types.specs.Look.{types_view}
use Rattle.gq_values.specs.ExpectedTypes.{expected_view}
use Rattle.gq_values.specs.LiteralPlaces.{literal_faults, item_faults, faults_of_field, value_faults}
use Rattle.gq_values.proofs.Steps.{turn_done}
use Rattle.gq_values.proofs.LiteralLemmas.{list_done, object_done}
use Rattle.gq_values.proofs.literal_faults.+literals.Goals as goal

pub add_literal_faults-returns-in-List : goal.add_literal_faults-returns-in-List
add_literal_faults-returns-in-List t c = on_ok_weaker c.put_item_faults.result
    (λ below. list_done (types_view c.args.types.now) c.args.file (expected_view c.args.reading) (expected_view c.items_at.result) c.args.value.now c.in-List.values c.in-List.span c.deref.result.now
    c.args.faults.now.items c.add_own_faults.new.faults.items c.put_item_faults.new.faults.items c.in-List.is c.items_at.ensures c.deref.ensures.value c.in_ok-add_own_faults.ensures below)
    c.put_item_faults.ensures

pub add_literal_faults-returns-in-Object : goal.add_literal_faults-returns-in-Object
add_literal_faults-returns-in-Object t c = on_ok_weaker c.add_value_faults.result
    (λ below. object_done (types_view c.args.types.now) c.args.file (expected_view c.args.reading) c.args.value.now c.in-Object.fields c.in-Object.span c.deref-in-Object.result.now
    c.args.faults.now.items c.add_own_faults.new.faults.items c.add_value_faults.new.faults.items c.in-Object.is c.deref-in-Object.ensures.value c.in_ok-add_own_faults.ensures below)
    c.add_value_faults.ensures

pub put_item_faults-loop-value-preserved : goal.put_item_faults-loop-value-preserved
put_item_faults-loop-value-preserved t c =
    let es = types_view c.args.types.now in
    let reading = expected_view c.args.reading in
    turn_done (λ v. literal_faults es c.args.file reading (value_view v)) c.args.values.now c.loop-value.value-index c.value-item.result c.loop-value.faults.items c.add_literal_faults.new.faults.items
    (c.args.faults.now.items ++ item_faults es c.args.file reading c.args.values.now) c.loop-value-test.true c.value-item.is c.loop-value.invariant c.in_ok-add_literal_faults.ensures

pub add_value_faults-loop-field-preserved : goal.add_value_faults-loop-field-preserved
add_value_faults-loop-field-preserved t c =
    let es = types_view c.args.types.now in
    let reading = expected_view c.args.reading in
    turn_done (faults_of_field es c.args.file reading) c.args.fields.now c.loop-field.field-index c.field-item.result c.loop-field.faults.items c.add_faults_of_field.new.faults.items
    (c.args.faults.now.items ++ value_faults es c.args.file reading c.args.fields.now) c.loop-field-test.true c.field-item.is c.loop-field.invariant c.in_ok-add_faults_of_field.ensures

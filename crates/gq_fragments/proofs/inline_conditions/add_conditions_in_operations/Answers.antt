-- One operation more.
use Rattle.gq_types.specs.Look.{types_view}
use Rattle.gq_document.specs.Definitions.{operation_view}
use Rattle.gq_fragments.specs.Helping.FragmentPlaces.{conditions_in_operation}
use Rattle.gq_fragments.proofs.InlineConditionLemmas.{one_more}
use Rattle.gq_fragments.proofs.inline_conditions.add_conditions_in_operations.Goals as goal

pub loop-operation-preserved : goal.loop-operation-preserved
loop-operation-preserved c =
    one_more operation_view (conditions_in_operation (types_view c.args.types.now)) c.args.operations.now c.loop-operation.operation-index c.operation-item.result c.args.faults.now.items c.loop-operation.faults.items c.add_conditions_in_operation.new.faults.items
    c.loop-operation-test.true c.operation-item.is c.loop-operation.invariant c.in_ok-add_conditions_in_operation.ensures

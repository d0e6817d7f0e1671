use Rattle.gq_executor.proofs.OperationLemmas.{here, later, nowhere}
use Rattle.gq_executor.proofs.execute.called.Goals as goal

pub returns-then-is_called : goal.returns-then-is_called
returns-then-is_called c = here c.args.operations.now c.loop-operation.operation-index c.operation-item.result c.args.name.now _ c.loop-operation-test.true c.operation-item.is c.is_called.ensures c.if-is_called.true c.loop-operation.invariant

pub loop-operation-preserved : goal.loop-operation-preserved
loop-operation-preserved c = later c.args.operations.now c.loop-operation.operation-index c.operation-item.result c.args.name.now _ c.loop-operation-test.true c.operation-item.is c.is_called.ensures c.if-is_called.false c.loop-operation.invariant

pub returns : goal.returns
returns c = nowhere c.args.operations.now c.loop-operation.operation-index c.args.name.now c.loop-operation-test.false c.loop-operation.invariant

use Rattle.std.proofs.Common.{◌≡◌, ◌++◌, false, drop, filter}
use Rattle.std.specs.Prelude.{slice_index_or}
use Rattle.gq_document.specs.Definitions.{OperationOf, operations_view}
use Rattle.gq_by_file.proofs.part.operations_in.Given as goal

abbrev pub invariant-loop-operation : goal.invariant-loop-operation
invariant-loop-operation l =
    operations_view l.some.items ++ filter (λ (o : OperationOf). slice_index_or l.marks o.file false) (operations_view (drop l.operation-index l.operations)) ≡ filter (λ (o : OperationOf). slice_index_or l.marks o.file false) (operations_view l.operations)

use Rattle.std.proofs.Common.{◌≡◌, ◌++◌, drop, map}
use Rattle.gq_document.specs.Definitions.{operations_view}
use Rattle.gq_spreads.specs.Helping.Links.{operation_links}
use Rattle.gq_spreads.specs.Helping.Rows.{row_items}
use Rattle.gq_spreads.proofs.spreads.operation_rows.Given as goal

abbrev pub invariant-loop-operation : goal.invariant-loop-operation
invariant-loop-operation l =
    row_items l.rows.items ++ map (operation_links l.names.names.items) (operations_view (drop l.operation-index l.operations)) ≡ map (operation_links l.names.names.items) (operations_view l.operations)

use Rattle.std.proofs.Common.{length}
use Rattle.gq_table.specs.Json.{rows_in}
use Rattle.gq_table.specs.Views.{rows_view}
use Rattle.gq_table_text.specs.Helping.ReadAs.{row_depth, AreReadBefore}
use Rattle.gq_table_text.proofs.rows.rows_to_end.Given as goal

-- where the tokens that are left can be read, all can
abbrev pub invariant-loop-alloc : goal.invariant-loop-alloc
invariant-loop-alloc l = AreReadBefore rows_in row_depth l.fn.reader l.reader (rows_view l.rows.items)

abbrev pub decreases-loop-alloc : goal.decreases-loop-alloc
decreases-loop-alloc l = length l.reader

use Rattle.std.proofs.Common.{◌≡◌, take, drop}
use Rattle.gq_table.specs.Rows.{repeats_after, has_repeated_call}
use Rattle.gq_table.specs.Views.{rows_view}
use Rattle.gq_table.specs.Helping.Index.{IsIndex}
use Rattle.gq_table.proofs.table.index_of.Given as goal

abbrev pub invariant-loop-number : goal.invariant-loop-number
invariant-loop-number l = record {
  index : IsIndex l.index (rows_view l.rows) (take l.number (rows_view l.rows));
  fresh : repeats_after (take l.number (rows_view l.rows)) (drop l.number (rows_view l.rows)) ≡ has_repeated_call (rows_view l.rows);
}

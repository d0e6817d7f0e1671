use Rattle.std.proofs.Common.{◌≡◌, drop}
use Rattle.gq_table.specs.Views.{rows_view, call_of}
use Rattle.gq_table.specs.Helping.Index.{result_among}
use Rattle.gq_table.proofs.index.result_among.Given as goal

abbrev pub invariant-loop-number : goal.invariant-loop-number
invariant-loop-number l = result_among (rows_view l.rows) (call_of l.call) (drop l.number-index l.numbers) ≡ result_among (rows_view l.rows) (call_of l.call) l.numbers

use Rattle.std.proofs.Common.{◌≡◌, drop}
use Rattle.gq_tree.specs.Forest.{agree}
use Rattle.gq_table.specs.Rows.{same_part}
use Rattle.gq_table.specs.Views.{values_view, entries_view}
use Rattle.gq_table.proofs.calls.+same.Given as goal

abbrev pub invariant-same_values-loop-i : goal.invariant-same_values-loop-i
invariant-same_values-loop-i l = agree same_part (values_view (drop l.i l.a)) (values_view (drop l.i l.b)) ≡ agree same_part (values_view l.a) (values_view l.b)

abbrev pub invariant-same_entries-loop-i : goal.invariant-same_entries-loop-i
invariant-same_entries-loop-i l = agree same_part (entries_view (drop l.i l.a)) (entries_view (drop l.i l.b)) ≡ agree same_part (entries_view l.a) (entries_view l.b)

use Rattle.std.proofs.Common.{drop, length, ◌+◌}
use Rattle.gq_document.specs.Executable.{executable_view}
use Rattle.gq_merging.specs.Helping.HubTables.{unset}
use Rattle.gq_merging.specs.Helping.SetTables.{IsEmptyAt, weights}
use Rattle.gq_merging.specs.Helping.Views.{sets_at, rows_view}
use Rattle.gq_merging.proofs.Listing.{Listing}
use Rattle.gq_merging.proofs.rows.all_rows.Given as goal

abbrev pub invariant-loop-project : goal.invariant-loop-project
invariant-loop-project l = record {
  listing : Listing (executable_view l.executable) (rows_view l.rows.items) (sets_at l.sets.items) l.hubs.items;
  empty : IsEmptyAt (sets_at l.sets.items) l.empty;
}

abbrev pub decreases-loop-project : goal.decreases-loop-project
decreases-loop-project l = weights (drop (length l.rows.items) (sets_at l.sets.items)) + unset l.hubs.items

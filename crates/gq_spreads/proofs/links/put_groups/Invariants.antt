use Rattle.std.proofs.Common.{◌≡◌, ◌++◌, drop, map}
use Rattle.std.specs.List.{enumerate_from}
use Rattle.gq_spreads.specs.Helping.Links.{group_at}
use Rattle.gq_spreads.specs.Helping.Rows.{row_items}
use Rattle.gq_spreads.proofs.links.put_groups.Given as goal

abbrev pub invariant-loop-place : goal.invariant-loop-place
invariant-loop-place l =
    row_items l.rows.items ++ map (group_at l.names.names.items) (enumerate_from l.place (drop l.place l.names.names.items))
    ≡ row_items l.initial.rows.items ++ map (group_at l.names.names.items) (enumerate_from 0 l.names.names.items)

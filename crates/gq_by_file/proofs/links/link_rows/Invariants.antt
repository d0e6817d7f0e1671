-- the rows of the files so far are there
use Rattle.std.proofs.Common.{◌≡◌, ◌++◌, drop, map}
use Rattle.gq_spreads.specs.Helping.Rows.{row_items}
use Rattle.gq_by_file.specs.Helping.Links.{linked_by}
use Rattle.gq_by_file.proofs.links.link_rows.Given as goal

abbrev pub invariant-loop-one : goal.invariant-loop-one
invariant-loop-one l = row_items l.rows.items ++ map (linked_by l.table) (drop l.one-index l.names) ≡ map (linked_by l.table) l.names

-- The table has the files of each name, so the rows lead to files.
use Rattle.std.proofs.Common.{◌∙◌}
use Rattle.gq_by_file.proofs.LinkLemmas.{linked_all, rows_in_range}
use Rattle.gq_by_file.proofs.links.links_of.Goals as goal

pub invariant_of-result : goal.invariant_of-result
invariant_of-result c =
    record { in_range = rows_in_range c.args.names.now c.in_ok-rows.rows.items (c.in_ok-rows.ensures ∙ linked_all c.in_ok-table.table c.args.names.now c.in_ok-table.ensures c.args.names.now) }

pub returns : goal.returns
returns c = c.in_ok-rows.ensures ∙ linked_all c.in_ok-table.table c.args.names.now c.in_ok-table.ensures c.args.names.now

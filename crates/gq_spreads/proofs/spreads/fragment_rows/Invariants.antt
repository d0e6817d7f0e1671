use Rattle.std.proofs.Common.{◌≡◌, ◌++◌, drop, map}
use Rattle.gq_document.specs.Definitions.{fragments_view}
use Rattle.gq_spreads.specs.Helping.Links.{fragment_links}
use Rattle.gq_spreads.specs.Helping.Rows.{row_items}
use Rattle.gq_spreads.proofs.spreads.fragment_rows.Given as goal

abbrev pub invariant-loop-fragment : goal.invariant-loop-fragment
invariant-loop-fragment l =
    row_items l.rows.items ++ map (fragment_links l.names.names.items) (fragments_view (drop l.fragment-index l.fragments)) ≡ map (fragment_links l.names.names.items) (fragments_view l.fragments)

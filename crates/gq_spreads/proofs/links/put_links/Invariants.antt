use Rattle.std.proofs.Common.{◌≡◌, ◌++◌, drop, flat_map}
use Rattle.gq_tree.specs.Names.{names_at}
use Rattle.gq_spreads.specs.Helping.Links.{links_of}
use Rattle.gq_spreads.proofs.links.put_links.Given as goal

abbrev pub invariant-loop-name : goal.invariant-loop-name
invariant-loop-name l =
    l.row.items ++ flat_map (links_of l.names.names.items) (names_at (drop l.name-index l.spread))
    ≡ l.initial.row.items ++ flat_map (links_of l.names.names.items) (names_at l.spread)

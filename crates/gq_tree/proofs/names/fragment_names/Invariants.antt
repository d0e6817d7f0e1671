use Rattle.std.proofs.Common.{◌≡◌, ◌++◌, drop, map}
use Rattle.gq_tree.specs.Names.{fragment_names, names_at}
use Rattle.gq_tree.specs.Views.{def_view}
use Rattle.gq_tree.proofs.names.fragment_names.Given as goal

abbrev pub invariant-loop-definition : goal.invariant-loop-definition
invariant-loop-definition l =
    names_at l.names.items ++ fragment_names (map def_view (drop l.definition-index l.definition-items)) ≡ fragment_names (map def_view l.definition-items)

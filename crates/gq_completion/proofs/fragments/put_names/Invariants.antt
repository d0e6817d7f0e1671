use Rattle.std.proofs.Common.{◌≡◌, ◌++◌, drop, map, flat_map}
use Rattle.gq_tree.specs.Views.{def_view}
use Rattle.gq_completion.specs.Helping.Fragments.{fragment_name}
use Rattle.gq_completion.proofs.fragments.put_names.Given as goal

abbrev pub invariant-loop-definition : goal.invariant-loop-definition
invariant-loop-definition l =
    l.names.items ++ flat_map fragment_name (map def_view (drop l.definition-index l.definition-items)) ≡ l.initial.names.items ++ flat_map fragment_name (map def_view l.definition-items)

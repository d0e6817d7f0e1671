use Rattle.std.proofs.Common.{◌≡◌, ◌++◌, drop, map}
use Rattle.std.specs.List.{flat_map}
use Rattle.gq_tree.specs.Views.{variable_view}
use Rattle.gq_mentions.specs.Mentions.{defined_mentions}
use Rattle.gq_mentions.specs.Views.{mentions_view}
use Rattle.gq_mentions.proofs.mentions.put_all_defined.Given as goal

abbrev pub invariant-loop-definition : goal.invariant-loop-definition
invariant-loop-definition l =
    mentions_view l.all.items ++ flat_map (defined_mentions l.number) (map variable_view (drop l.definition-index l.definitions))
    ≡ mentions_view l.initial.all.items ++ flat_map (defined_mentions l.number) (map variable_view l.definitions)

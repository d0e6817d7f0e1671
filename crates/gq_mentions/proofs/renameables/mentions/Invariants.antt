use Rattle.std.proofs.Common.{◌≡◌, ◌++◌, ◌+◌, ◌≤◌, drop, map}
use Rattle.gq_tree.specs.Views.{def_view}
use Rattle.gq_mentions.specs.Mentions.{mentions}
use Rattle.gq_mentions.specs.Views.{mentions_view}
use Rattle.gq_mentions.proofs.renameables.mentions.Given as goal

abbrev pub invariant-loop-definition : goal.invariant-loop-definition
invariant-loop-definition l =
    (l.number ≤ l.first + l.definition-index)
    × (mentions_view l.all.items ++ mentions l.number (map def_view (drop l.definition-index l.definition-items)) ≡ mentions l.first (map def_view l.definition-items))

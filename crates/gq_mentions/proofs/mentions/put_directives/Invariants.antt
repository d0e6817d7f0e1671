use Rattle.std.proofs.Common.{◌≡◌, ◌++◌, drop, map}
use Rattle.gq_tree.specs.Views.{directive_view}
use Rattle.gq_mentions.specs.Mentions.{directive_mentions}
use Rattle.gq_mentions.specs.Views.{mentions_view}
use Rattle.gq_mentions.proofs.mentions.put_directives.Given as goal

abbrev pub invariant-loop-directive : goal.invariant-loop-directive
invariant-loop-directive l =
    mentions_view l.all.items ++ directive_mentions l.number (map directive_view (drop l.directive-index l.directives)) ≡ mentions_view l.initial.all.items ++ directive_mentions l.number (map directive_view l.directives)

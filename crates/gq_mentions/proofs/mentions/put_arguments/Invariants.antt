use Rattle.std.proofs.Common.{◌≡◌, ◌++◌, drop, map}
use Rattle.gq_tree.specs.Views.{argument_view}
use Rattle.gq_mentions.specs.Mentions.{argument_mentions}
use Rattle.gq_mentions.specs.Views.{mentions_view}
use Rattle.gq_mentions.proofs.mentions.put_arguments.Given as goal

abbrev pub invariant-loop-argument : goal.invariant-loop-argument
invariant-loop-argument l =
    mentions_view l.all.items ++ argument_mentions l.number (map argument_view (drop l.argument-index l.arguments)) ≡ mentions_view l.initial.all.items ++ argument_mentions l.number (map argument_view l.arguments)

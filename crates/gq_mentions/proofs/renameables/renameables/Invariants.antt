use Rattle.std.proofs.Common.{◌≡◌, ◌++◌, drop}
use Rattle.std.specs.Prelude.{filter}
use Rattle.gq_mentions.specs.Renameables.{can_be_renamed}
use Rattle.gq_mentions.specs.Views.{mentions_view}
use Rattle.gq_mentions.proofs.renameables.renameables.Given as goal

abbrev pub invariant-loop-one : goal.invariant-loop-one
invariant-loop-one l = mentions_view l.some.items ++ filter can_be_renamed (mentions_view (drop l.one-index l.one-items)) ≡ filter can_be_renamed (mentions_view l.one-items)

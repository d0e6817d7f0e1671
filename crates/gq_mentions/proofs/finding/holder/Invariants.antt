use Rattle.std.proofs.Common.{◌≡◌, drop}
use Rattle.std.specs.Prelude.{find}
use Rattle.gq_mentions.specs.Meant.{holds}
use Rattle.gq_mentions.specs.Views.{mentions_view}
use Rattle.gq_mentions.proofs.finding.holder.Given as goal

abbrev pub invariant-loop-one : goal.invariant-loop-one
invariant-loop-one l = find (holds l.offset) (mentions_view (drop l.one-index l.all)) ≡ find (holds l.offset) (mentions_view l.all)

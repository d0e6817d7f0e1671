use Rattle.std.proofs.Common.{◌≡◌, drop}
use Rattle.std.specs.Prelude.{find}
use Rattle.gq_mentions.specs.Meant.{ends_at}
use Rattle.gq_mentions.specs.Views.{mentions_view}
use Rattle.gq_mentions.proofs.finding.ender.Given as goal

abbrev pub invariant-loop-one : goal.invariant-loop-one
invariant-loop-one l = find (ends_at l.offset) (mentions_view (drop l.one-index l.all)) ≡ find (ends_at l.offset) (mentions_view l.all)

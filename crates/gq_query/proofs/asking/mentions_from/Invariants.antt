use Rattle.std.proofs.Common.{◌≡◌, ◌+◌, ◌++◌, drop}
use Rattle.gq_mentions.specs.Views.{mentions_view}
use Rattle.gq_index.specs.Views.{definitions_view}
use Rattle.gq_query.specs.Helping.Own.{mentions_from}
use Rattle.gq_query.proofs.asking.mentions_from.Given as goal

abbrev pub invariant-loop-place : goal.invariant-loop-place
invariant-loop-place l =
    mentions_view l.all.items ++ mentions_from (l.first + l.place) (definitions_view (drop l.place l.definitions)) ≡ mentions_from l.first (definitions_view l.definitions)

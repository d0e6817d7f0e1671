use Rattle.std.proofs.Common.{◌≡◌, ◌+◌, drop}
use Rattle.serde_json.specs.View.{items_view}
use Rattle.gq_check.specs.Flaws.{rows_flaw}
use Rattle.gq_check.proofs.flaws.rows_flaw.Given as goal

-- what is wrong with all of them is what is wrong with those from here on
abbrev pub invariant-loop-index : goal.invariant-loop-index
invariant-loop-index l = rows_flaw 1 (items_view l.rows) ≡ rows_flaw (l.index + 1) (items_view (drop l.index l.rows))

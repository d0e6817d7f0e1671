use Rattle.std.proofs.Common.{◌≡◌, ◌++◌, drop}
use Rattle.gq_cut.specs.Helping.Runs.{replacements_at}
use Rattle.gq_cut.proofs.edits.replacements.Given as goal

abbrev pub invariant-loop-place : goal.invariant-loop-place
invariant-loop-place l = l.all.items ++ replacements_at l.new_name (drop l.place-index l.places) ≡ replacements_at l.new_name l.places

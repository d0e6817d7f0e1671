use Rattle.std.proofs.Common.{◌≡◌, ◌++◌, drop}
use Rattle.gq_cut.specs.Helping.Runs.{edits_at, AreApart}
use Rattle.gq_cut.proofs.edits.edits_at.Given as goal

abbrev pub invariant-loop-file : goal.invariant-loop-file
invariant-loop-file l = (l.edits.items ++ edits_at l.new_name l.file (drop l.file l.documents) l.rest ≡ edits_at l.new_name 0 l.documents l.places) × AreApart l.new_name l.file (drop l.file l.documents) l.rest

use Rattle.std.proofs.Common.{◌≡◌, drop}
use Rattle.gq_types.specs.Entries.{entries_view}
use Rattle.gq_types.specs.Helping.Tables.{first_root_at}
use Rattle.gq_types.proofs.roots.first_root_at.Given as goal

abbrev pub invariant-loop-number : goal.invariant-loop-number
invariant-loop-number l = first_root_at (entries_view l.entries) l.kind (drop l.number-index l.numbers) ≡ first_root_at (entries_view l.entries) l.kind l.numbers

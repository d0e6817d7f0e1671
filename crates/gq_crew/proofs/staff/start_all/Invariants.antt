use Rattle.std.proofs.Common.{◌≡◌}
use Rattle.gq_workers.specs.Ends.{posted, reader_on}
use Rattle.gq_crew.proofs.staff.start_all.Given as goal

-- the reader's end is as it was
abbrev pub invariant-loop-started : goal.invariant-loop-started
invariant-loop-started g l = (posted l.reader ≡ posted l.fn.reader) × (reader_on l.reader ≡ reader_on l.fn.reader)

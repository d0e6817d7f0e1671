use Rattle.std.proofs.Common.{[], length}
use Rattle.gq_merging.specs.Helping.PairTables.{IsStart, Gains}
use Rattle.gq_merging.proofs.pairs.starts.Given as goal

abbrev pub invariant-loop-number : goal.invariant-loop-number
invariant-loop-number l = Gains (IsStart l.passed (length l.passed) l.size l.number) [] l.found.keys

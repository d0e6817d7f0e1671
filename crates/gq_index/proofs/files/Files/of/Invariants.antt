use Rattle.std.proofs.Common.{map}
use Rattle.std.specs.Map.Iter.{deref_pair}
use Rattle.gq_index.proofs.FileLemmas.{AreKept}
use Rattle.gq_index.proofs.files.Files.of.Given as goal

abbrev pub invariant-loop-document : goal.invariant-loop-document
invariant-loop-document l = AreKept (map deref_pair l.yielded) l.files.items

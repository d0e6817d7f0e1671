use Rattle.std.proofs.Common.{take}
use Rattle.gq_kept.specs.Helping.Gone.{ArePut}
use Rattle.gq_kept.proofs.kept.Kept.put_all.Given as goal

abbrev pub invariant-loop-doc : goal.invariant-loop-doc
invariant-loop-doc l = ArePut l.fn.self.documents (take l.doc-index l.documents) l.self.documents

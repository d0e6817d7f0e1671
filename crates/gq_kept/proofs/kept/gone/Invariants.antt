use Rattle.std.proofs.Common.{take}
use Rattle.gq_kept.specs.Helping.Gone.{AreGone}
use Rattle.gq_kept.proofs.kept.gone.Given as goal

abbrev pub invariant-loop-doc : goal.invariant-loop-doc
invariant-loop-doc l = AreGone (take l.doc-index l.documents) l.project l.keys.items

use Rattle.std.proofs.Common.{take}
use Rattle.gq_rename.specs.Sound.{AreUtf8}
use Rattle.gq_rename.proofs.checking.documents_are_texts.Given as goal

abbrev pub invariant-loop-document : goal.invariant-loop-document
invariant-loop-document l = AreUtf8 (take l.document-index l.document-items)

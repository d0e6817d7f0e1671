use Rattle.std.proofs.Common.{◌≡◌, map, take}
use Rattle.gq_edit.specs.Edits.{edited}
use Rattle.gq_edit.proofs.applying.after.Given as goal

abbrev pub invariant-loop-doc : goal.invariant-loop-doc
invariant-loop-doc l = l.documents ≡ map (edited l.edit) (take l.doc-index l.doc-items)

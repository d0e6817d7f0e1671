use Rattle.std.proofs.Common.{◌≡◌, take}
use Rattle.gq_project.proofs.project.Project.copied.Given as goal

abbrev pub invariant-loop-doc : goal.invariant-loop-doc
invariant-loop-doc l = l.documents ≡ take l.doc-index l.doc-items

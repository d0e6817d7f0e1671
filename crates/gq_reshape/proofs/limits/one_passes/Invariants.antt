use Rattle.std.proofs.Common.{drop}
use Rattle.std.specs.List.{AllByRecursion}
use Rattle.gq_reshape.specs.Helping.Limited.{TextPasses}
use Rattle.gq_reshape.proofs.limits.one_passes.Given as goal

abbrev pub invariant-loop-document_edit : goal.invariant-loop-document_edit
invariant-loop-document_edit l =
    AllByRecursion (λ edit. TextPasses l.project edit → ⊥) (drop l.document_edit-index l.document_edit-items) → AllByRecursion (λ edit. TextPasses l.project edit → ⊥) l.document_edit-items

use Rattle.std.proofs.Common.{List, subst}
use Rattle.std.proofs.Math.Logic.{∥∥₁_elim}
use Rattle.gq_project.specs.declared.document.Doc.{Doc}
use Rattle.gq_project.specs.Documents.{IsInOrder}
use Rattle.gq_reshape.specs.Reshape.{IsInlineAnswer}
use Rattle.gq_reshape.proofs.RemovePasses.{never_told}
use Rattle.gq_reshape.proofs.inlining.inline_by.Goals as goal

pub returns-clause-never_self_check : goal.returns-clause-never_self_check
returns-clause-never_self_check c told =
    let in_order = subst (λ (ds : List Doc). IsInOrder ds) c.project.ensures.same c.documents_are_texts.ensures.in_order in
    ∥∥₁_elim c.requires.known (λ p q. absurd p) (λ known.
    ∥∥₁_elim c.requires.index (λ p q. absurd p) (λ index.
    never_told IsInlineAnswer c.inlines_pass.ensures.never c.args.valid.now (record { key = c.args.key.now; range = c.args.range }) in_order c.project.ensures.valid c.reshape_by.result (c.reshape_by.ensures.answer known index) told))

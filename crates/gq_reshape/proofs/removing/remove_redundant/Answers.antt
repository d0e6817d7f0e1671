use Rattle.std.proofs.Common.{List, subst}
use Rattle.gq_project.specs.declared.document.Doc.{Doc}
use Rattle.gq_project.specs.Documents.{IsInOrder}
use Rattle.gq_reshape.specs.Reshape.{IsRemoveAnswer}
use Rattle.gq_reshape.proofs.RemovePasses.{never_told}
use Rattle.gq_reshape.proofs.removing.remove_redundant.Goals as goal

pub returns-clause-never_self_check : goal.returns-clause-never_self_check
returns-clause-never_self_check c told =
    let in_order = subst (λ (ds : List Doc). IsInOrder ds) c.project.ensures.same c.documents_are_texts.ensures.in_order in
    never_told IsRemoveAnswer c.removals_pass.ensures.never c.args.valid.now (record { key = c.args.key.now; range = c.args.range }) in_order c.project.ensures.valid c.reshape.result c.reshape.ensures.answer told

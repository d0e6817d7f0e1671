use Rattle.gq_reshape.proofs.Limiting.{fine_later}
use Rattle.gq_reshape.proofs.limits.one_passes.Goals as goal

pub loop-document_edit-preserved : goal.loop-document_edit-preserved
loop-document_edit-preserved c =
    fine_later c.args.project.now c.documents-document_edit-items.result.now c.loop-document_edit.document_edit-index c.document_edit-item.result c.in_ok-text_passes.field-0 c.loop-document_edit-test.true c.document_edit-item.is
    c.in_ok-text_passes.ensures c.if-branch.false c.loop-document_edit.invariant

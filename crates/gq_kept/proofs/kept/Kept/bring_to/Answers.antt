-- What is gone is dropped, and what is to be there is put, so each key finds what it is to find.
use Rattle.std.proofs.Common.{ℕ, List, subst, ◌∙◌}
use Rattle.gq_project.specs.declared.document.Doc.{Doc}
use Rattle.gq_project.specs.Documents.{IsInOrder}
use Rattle.gq_kept.specs.Helping.Gone.{AreGone, AreDropped, ArePut}
use Rattle.gq_kept.proofs.Brought.{brought}
use Rattle.gq_kept.proofs.kept.Kept.bring_to.Goals as goal

pub returns : goal.returns
returns c =
    let before : List Doc = c.args.self.now.documents in
    let dropped : List Doc = c.drop_all.new.self.documents in
    let after : List Doc = c.put_all.new.self.documents in
    let wanted : List Doc = c.args.project.now in
    brought before dropped after wanted c.in_ok-gone.gone.items
    (subst (λ (ds : List Doc). AreGone ds wanted c.in_ok-gone.gone.items) (c.documents.ensures.all ∙ c.project.ensures) c.in_ok-gone.ensures)
    (subst (λ (keys : List (List ℕ)). AreDropped before keys dropped) c.deref.ensures.value c.in_ok-drop_all.ensures)
    (subst (λ (ds : List Doc). ArePut dropped ds after) c.documents-2.ensures.all c.in_ok-put_all.ensures)
    c.documents-2.ensures.in_order (subst (λ (ds : List Doc). IsInOrder ds) c.project-2.ensures c.documents-in_order.ensures.in_order)

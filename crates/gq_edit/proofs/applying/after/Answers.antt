-- Each document's edit fits it, and the edited documents are in order.
use Rattle.std.proofs.Common.{◌≤◌, length, Contains, sym, arith}
use Rattle.std.proofs.lemmas.List.{take_all}
use Rattle.gq_edit.proofs.Fitting.{fit_document, IsInOrder-after_edit}
use Rattle.gq_edit.proofs.applying.after.Goals as goal

pub document_after-requires : goal.document_after-requires
document_after-requires c =
    let docs = c.documents-doc-items.ensures in
    let place : Contains c.documents-doc-items.result.now c.doc-item.result = (c.loop-doc.doc-index, omega arith, sym c.doc-item.is) in
    fit_document _ _ c.doc-item.result docs.in_order c.requires (rw docs.all at place)

pub from_ordered-requires : goal.from_ordered-requires
from_ordered-requires c =
    let docs = c.documents-doc-items.ensures in
    let all : length c.documents-doc-items.result.now ≤ c.loop-doc.doc-index = omega arith in
    rw (c.into_vec.ensures, c.loop-doc.invariant, take_all _ _ all, docs.all) (IsInOrder-after_edit c.args.edit.now _ docs.in_order)

-- The edit of the document's key is the edit of the document where the versions agree.
use Rattle.gq_edit.proofs.Naming.{edit_of-found}
use Rattle.gq_edit.proofs.edit.Edit.of.Goals as goal

pub returns-in_err-edit : goal.returns-in_err-edit
returns-in_err-edit c = rw (c.from_residual.ensures, edit_of-found _ c.args.doc.now _ _ c.at.ensures.in_order c.as_str.ensures c.in_err-edit.ensures.found)

pub returns-then-has_version_of : goal.returns-then-has_version_of
returns-then-has_version_of c = rw (edit_of-found _ c.args.doc.now _ _ c.at.ensures.in_order c.as_str.ensures c.in_ok-edit.ensures.found, ← c.if-has_version_of.ensures)

pub returns-else-has_version_of : goal.returns-else-has_version_of
returns-else-has_version_of c = rw (edit_of-found _ c.args.doc.now _ _ c.at.ensures.in_order c.as_str.ensures c.in_ok-edit.ensures.found, ← c.if-has_version_of.ensures)

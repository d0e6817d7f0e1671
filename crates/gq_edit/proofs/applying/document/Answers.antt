-- The document of the edit's key is the edit's document where the versions agree.
use Rattle.gq_edit.proofs.Naming.{document_of-found}
use Rattle.gq_edit.proofs.applying.document.Goals as goal

pub returns-in_err-doc : goal.returns-in_err-doc
returns-in_err-doc c = rw (c.from_residual.ensures, document_of-found _ c.args.edit.now _ _ c.get.ensures.in_order c.as_str.ensures c.in_err-doc.ensures.found)

pub returns-then-has_version_of : goal.returns-then-has_version_of
returns-then-has_version_of c = rw (document_of-found _ c.args.edit.now _ _ c.get.ensures.in_order c.as_str.ensures c.in_ok-doc.ensures.found, ← c.if-has_version_of.ensures)

pub returns-else-has_version_of : goal.returns-else-has_version_of
returns-else-has_version_of c = rw (document_of-found _ c.args.edit.now _ _ c.get.ensures.in_order c.as_str.ensures c.in_ok-doc.ensures.found, ← c.if-has_version_of.ensures)

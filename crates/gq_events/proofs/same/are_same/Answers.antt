-- Each place decides, or leaves it to the next.
use Rattle.std.proofs.Common.{sym}
use Rattle.gq_events.proofs.Agreeing.{as_many, same_here, other_here}
use Rattle.gq_events.proofs.same.are_same.Goals as goal

pub returns-then-texts-documents : goal.returns-then-texts-documents
returns-then-texts-documents c = sym (as_many c.args.texts.now c.args.documents.now c.if-texts-documents.true)

pub returns-then-not-same_document : goal.returns-then-not-same_document
returns-then-not-same_document c =
    sym (other_here c.args.texts.now c.args.documents.now c.loop-i.i c.index-texts-i.result c.index-documents-i.result c.same_document.result c.loop-i-test.true c.if-texts-documents.false
    c.index-texts-i.is c.index-documents-i.is c.loop-i.invariant c.same_document.ensures c.if-not-same_document.true)

pub loop-i-preserved : goal.loop-i-preserved
loop-i-preserved c =
    same_here c.args.texts.now c.args.documents.now c.loop-i.i c.index-texts-i.result c.index-documents-i.result c.same_document.result c.loop-i-test.true c.if-texts-documents.false
    c.index-texts-i.is c.index-documents-i.is c.loop-i.invariant c.same_document.ensures c.if-not-same_document.false

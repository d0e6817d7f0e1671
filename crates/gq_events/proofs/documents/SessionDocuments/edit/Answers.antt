-- The document of the key is edited in its place.
use Rattle.gq_events.proofs.Keyed.{still_in_order, edits, edits_nothing}
use Rattle.gq_events.proofs.documents.SessionDocuments.edit.Goals as goal

pub invariant_of-self : goal.invariant_of-self
invariant_of-self c =
    still_in_order c.args.encoding c.self.inside.documents.items c.args.self.now c.self.view_is c.args.params.now c.as_str.result.now c.as_str.ensures c.in-Ok.at c.in-Ok.ensures.found c.index_mut.result.now c.edit_document.new.document
    c.index_mut.ensures.value c.edit_document.ensures c.self.invariant

pub returns-in-Ok : goal.returns-in-Ok
returns-in-Ok c =
    edits c.args.encoding c.self.inside.documents.items c.args.self.now c.self.view_is c.args.params.now c.as_str.result.now c.as_str.ensures c.in-Ok.at c.in-Ok.ensures.found c.index_mut.result.now c.edit_document.new.document
    c.index_mut.ensures.value c.edit_document.ensures

pub returns-in-Err : goal.returns-in-Err
returns-in-Err c = edits_nothing c.args.encoding c.args.self.now c.args.params.now c.as_str.result.now c.in-Err.field-0 c.as_str.ensures c.in-Err.ensures.absent

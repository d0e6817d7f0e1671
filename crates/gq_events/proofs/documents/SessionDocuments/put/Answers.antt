-- The document is written over the one of its key, or goes into the gap for its key.
use Rattle.gq_events.proofs.Keyed.{IsInOrder-with_document, set_with_document, insert_with_document, found_at, not_found}
use Rattle.gq_events.proofs.documents.SessionDocuments.put.Goals as goal
use Rattle.gq_events.proofs.documents.SessionDocuments.put.Goals.{in-Ok-insert, in-Err-insert}

pub returns-in-Ok-clause-documents : goal.returns-in-Ok-clause-documents
returns-in-Ok-clause-documents c = rw (c.replace.ensures.after, c.self.view_is) (set_with_document _ _ _ c.args.document c.in-Ok.ensures.found c.as_str.ensures)

pub invariant_of-self : goal.invariant_of-self
invariant_of-self c = rw (returns-in-Ok-clause-documents c, ← c.self.view_is) (IsInOrder-with_document _ c.args.document c.self.invariant)

pub invariant_of-self-after-insert-2 : goal.invariant_of-self-after-insert-2
invariant_of-self-after-insert-2 c =
    elim c.match-insert.branch [
      | in-Ok-insert w ↦ rw (w.in-Ok-insert.ensures.items, c.self.view_is, insert_with_document _ _ _ c.args.document c.in-Err.ensures.absent c.as_str.ensures, ← c.self.view_is) (IsInOrder-with_document _ c.args.document c.self.invariant)
      | in-Err-insert w ↦ rw w.in-Err-insert.ensures.items c.self.invariant
    ]

pub returns-in-Ok-clause-replaced : goal.returns-in-Ok-clause-replaced
returns-in-Ok-clause-replaced c =
    found_at c.self.inside.documents.items c.args.self.now c.as_str.result.now c.args.document.key c.in-Ok.at c.index_mut.result.now c.replace.result c.self.view_is c.as_str.ensures c.in-Ok.ensures.found c.replace.ensures.value c.index_mut.ensures.value

pub returns-after-insert-clause-replaced : goal.returns-after-insert-clause-replaced
returns-after-insert-clause-replaced c =
    elim c.match-insert.branch [
      | in-Ok-insert w ↦ rw w.result-is (not_found c.args.self.now c.as_str.result.now c.args.document.key c.in-Err.at c.as_str.ensures c.in-Err.ensures.absent)
      | in-Err-insert w ↦ rw w.result-is tt
    ]

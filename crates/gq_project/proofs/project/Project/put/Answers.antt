-- The document is written over the one of its key, or goes into the gap for its key.
use Rattle.gq_project.proofs.DocumentLemmas.{IsInOrder-with_doc, set_with_doc, insert_with_doc}
use Rattle.gq_project.proofs.project.Project.put.Goals as goal
use Rattle.gq_project.proofs.project.Project.put.Goals.{in-Ok-insert, in-Err-insert}

pub returns-in-Ok-clause-ok : goal.returns-in-Ok-clause-ok
returns-in-Ok-clause-ok c = rw c.self.view_is (set_with_doc _ _ _ c.args.doc c.in-Ok.ensures.found c.as_str.ensures)

pub invariant_of-self : goal.invariant_of-self
invariant_of-self c = rw (returns-in-Ok-clause-ok c, ← c.self.view_is) (IsInOrder-with_doc _ c.args.doc c.self.invariant)

pub invariant_of-self-after-insert-2 : goal.invariant_of-self-after-insert-2
invariant_of-self-after-insert-2 c =
    elim c.match-insert.branch [
      | in-Ok-insert w ↦ rw (w.in-Ok-insert.ensures.items, c.self.view_is, insert_with_doc _ _ _ c.args.doc c.in-Err.ensures.absent c.as_str.ensures, ← c.self.view_is) (IsInOrder-with_doc _ c.args.doc c.self.invariant)
      | in-Err-insert w ↦ rw w.in-Err-insert.ensures.items c.self.invariant
    ]

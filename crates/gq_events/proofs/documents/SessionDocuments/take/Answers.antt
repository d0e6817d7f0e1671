-- Without a document the others are in order still.
use Rattle.gq_events.proofs.Keyed.{IsInOrder-without}
use Rattle.gq_events.proofs.documents.SessionDocuments.take.Goals as goal

pub invariant_of-self : goal.invariant_of-self
invariant_of-self c = rw (c.remove.ensures.items, c.self.view_is, c.in-Ok.ensures.found.others, ← c.self.view_is) (IsInOrder-without c.self.inside.documents.items c.args.key.now c.self.invariant)

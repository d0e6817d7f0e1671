-- The closure compares a document's key with the key that is sought.
use Rattle.std.proofs.Common.{rules}
use Rattle.std.proofs.lemmas.Fn.{always_returns_same}
use Rattle.gq_project.proofs.Keys.{key_cmp, searched}
use Rattle.gq_events.proofs.Keyed.{key_of}
use Rattle.gq_events.proofs.documents.SessionDocuments.place.Goals as goal

pub returns : goal.returns
returns c =
    let facts = c.binary_search_by.ensures in
    let by_key = facts.position (λ document. key_cmp document.key c.args.key.now) (always_returns_same _ _ _ (λ a r g called. search rules)) in
    rw (← c.self.view_is, ← c.deref.ensures.value) (searched key_of c.deref.result.now (rw c.deref.ensures.value c.self.invariant) c.args.key.now _ facts.bound by_key)

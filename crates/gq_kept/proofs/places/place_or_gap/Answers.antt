-- The closure compares a document's key with the key that is sought.
use Rattle.std.proofs.Common.{rules}
use Rattle.std.proofs.lemmas.Fn.{always_returns_same}
use Rattle.gq_project.proofs.Keys.{key_cmp, searched}
use Rattle.gq_kept.proofs.places.place_or_gap.Goals as goal

pub returns : goal.returns
returns c =
    let facts = c.binary_search_by.ensures in
    let by_key = facts.position (λ doc. key_cmp doc.key c.args.key.now) (always_returns_same _ _ _ (λ a r g called. search rules)) in
    searched (λ doc. doc.key) c.args.documents.now c.requires c.args.key.now _ facts.bound by_key

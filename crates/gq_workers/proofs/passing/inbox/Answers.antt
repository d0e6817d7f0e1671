use Rattle.std.proofs.Common.{ap}
use Rattle.gq_workers.proofs.InboxMoves.{begins, parts}
use Rattle.gq_workers.proofs.passing.inbox.Goals as goal

pub bounded_with-made-requires-clause-rule : goal.bounded_with-made-requires-clause-rule
bounded_with-made-requires-clause-rule g c = begins g.row.J.Denot g.J.Room

pub another-reader-requires-clause-rule : goal.another-reader-requires-clause-rule
another-reader-requires-clause-rule g c = let fresh = c.in-Ok.ensures.3 in parts _ _ (ap (λ v. v.posts) fresh) (ap (λ v. v.collects) fresh)

use Rattle.std.proofs.Common.{ap}
use Rattle.gq_workers.proofs.InboxMoves.{meets, left}
use Rattle.gq_workers.proofs.passing.compare.Goals as goal

pub absorb-requires-clause-rule : goal.absorb-requires-clause-rule
absorb-requires-clause-rule g c = meets _ _ _ _ c.args.desk.collects c.args.reader.posts

pub learn_as-requires-clause-rule : goal.learn_as-requires-clause-rule
learn_as-requires-clause-rule g c = left _ _ (ap (λ v. v.posts) c.absorb.ensures.rule) (ap (λ v. v.collects) c.absorb.ensures.rule)

use Rattle.gq_workers.specs.declared.delivery.Delivery.TheVariants.{Read}
use Rattle.gq_workers.proofs.InboxMoves.{sends}
use Rattle.gq_workers.proofs.ends.ReaderEnd.post.Goals as goal

pub send_as-requires-clause-rule : goal.send_as-requires-clause-rule
send_as-requires-clause-rule g c = (sends _ _ _ (Read c.args.event) c.args.self.now.posts, λ items views h at. tt)

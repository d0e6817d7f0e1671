use Rattle.gq_workers.specs.declared.delivery.Delivery.TheVariants.{Sent}
use Rattle.gq_workers.proofs.InboxMoves.{sends}
use Rattle.gq_workers.proofs.ends.Outbox.hand.Goals as goal

pub send_as-requires-clause-rule : goal.send_as-requires-clause-rule
send_as-requires-clause-rule g c = (sends _ _ _ (Sent c.args.sent) tt, λ items views h at. tt)

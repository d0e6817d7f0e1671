use Rattle.std.proofs.Common.{◌≡◌, ◌++◌, inr, ap, sym, subst, refl, ◌∙◌, append-nil}
use Rattle.gq_board.specs.Published.{docs_after}
use Rattle.gq_events.specs.Jobs.{DoneOf}
use Rattle.gq_events.specs.Tasks.{is_superseded}
use Rattle.gq_workers.specs.Orders.{order_of, is_behind}
use Rattle.gq_workers.specs.Inbox.{read_in}
use Rattle.gq_workers.specs.Ends.{collected}
use Rattle.gq_crew.proofs.desk_side.DeliveriesIterator.next.Goals as goal

pub returns-in-Some-Sent-clause-steps : goal.returns-in-Some-Sent-clause-steps
returns-in-Some-Sent-clause-steps g c =
    let s = c.in-Some-Sent.sent in (
      c.in-Some-Sent.ensures.on,
      refl,
      inr (
        c.in-Some-Sent.ensures.collected ∙ (ap (λ d. collected c.args.self.now.end ++ read_in d) c.in-Some-Sent.field-0-is ∙ append-nil (collected c.args.self.now.end)),
        (
          c.into_done.result,
          refl,
          record {
            order = order_of s.order;
            seen = s.seen;
            number = ap (λ d. d.job) c.into_done.ensures ∙ s.same.0;
            later = s.later;
            texts = ap (λ d. d.texts) c.into_done.ensures ∙ (s.texts ∙ ap (λ b. docs_after b s.seen) c.requires);
            behind = subst (λ (d : DoneOf). is_superseded d.answer ≡ is_behind d.task s.order.told s.seen) (sym c.into_done.ensures) s.behind;
          },
        ),
      ),
    )

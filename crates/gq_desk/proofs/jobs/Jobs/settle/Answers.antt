use Rattle.std.proofs.Common.{not}
use Rattle.gq_events.specs.Documents.{docs_of}
use Rattle.gq_events.specs.Rules.{decides}
use Rattle.gq_desk.proofs.Taking.{none_numbered, kept_numbered}
use Rattle.gq_desk.proofs.jobs.Jobs.settle.Goals as goal

pub invariant_of-self : goal.invariant_of-self
invariant_of-self c =
    none_numbered c.self.inside.pending.items c.replace-pending.new.dest.items c.self.inside.next (rw c.replace-pending.ensures.after c.new.ensures.items) c.self.invariant

pub invariant_of-self-2 : goal.invariant_of-self-2
invariant_of-self-2 c =
    kept_numbered (λ job. not (decides (docs_of c.args.documents.now) c.args.effect job)) c.self.inside.pending.items c.in_ok-pending.pending.items c.self.inside.next
    (rw c.replace-pending.ensures.value at c.in_ok-pending.ensures.left) c.self.invariant

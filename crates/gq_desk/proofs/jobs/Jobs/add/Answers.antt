use Rattle.std.proofs.Common.{◌+◌, ap, refl, arith}
use Rattle.gq_events.specs.Jobs.{JobOf}
use Rattle.gq_desk.proofs.Taking.{more_numbered}
use Rattle.gq_desk.proofs.jobs.Jobs.add.Goals as goal

pub invariant_of-self-2 : goal.invariant_of-self-2
invariant_of-self-2 c =
    more_numbered c.self.inside.pending.items c.push.new.self.items c.self.inside.next (c.self.inside.next + 1) c.bare_job-2.result c.in_ok-push.ensures.items (ap (λ (job : JobOf). job.number) c.bare_job-2.ensures) (omega arith) c.self.invariant

pub returns : goal.returns
returns c = rw (c.in_ok-push_back.ensures.items, c.in_ok-push.ensures.items, c.bare_job.ensures, c.bare_job-2.ensures, c.in_ok-copy.ensures, ← c.self.view_is) refl

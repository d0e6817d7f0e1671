use Rattle.std.proofs.Common.{subst}
use Rattle.gq_executor.specs.Helping.Plans.{IsPrepared}
use Rattle.gq_executor.proofs.PlanLemmas.{zip_more}
use Rattle.gq_executor.proofs.plans.calls_of_groups.Goals as goal

pub loop-group-preserved : goal.loop-group-preserved
loop-group-preserved c =
    zip_more (λ g p. IsPrepared c.args.world c.args.object.now g.items p) c.args.groups.now c.loop-group.calls.items _ c.loop-group.group-index c.group-item.result _ c.loop-group-test.true c.group-item.is c.in_ok-push.ensures.items c.loop-group.invariant
    (subst (λ ts. IsPrepared c.args.world c.args.object.now ts c.in_ok-call_of_group.field-0) c.deref.ensures.value c.in_ok-call_of_group.ensures)

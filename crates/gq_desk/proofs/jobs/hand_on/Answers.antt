use Rattle.std.proofs.Common.{◌<◌, List, [], ◌∷◌, ◌++◌, length, ap, ◌∙◌, arith}
use Rattle.gq_events.specs.Jobs.{JobOf}
use Rattle.gq_events.specs.declared.event.Out.TheVariants as output
use Rattle.gq_events.specs.Rules.{out_max}
use Rattle.gq_desk.proofs.Handing.{told_on, rest_on}
use Rattle.gq_desk.proofs.jobs.hand_on.Goals as goal

pub loop-alloc-preserved : goal.loop-alloc-preserved
loop-alloc-preserved c =
    let room : length c.loop-alloc.out.items < out_max = omega arith in
    let job = c.in-Some.job in
    let numbered = c.in_ok-push.ensures.items ∙ ap (λ (j : JobOf). c.loop-alloc.out.items ++ j.number ∷ []) c.job.view_is in
    let told = c.in_ok-push-2.ensures.items ∙ ap (λ (j : JobOf). c.loop-alloc.outs.items ++ output.Job j ∷ []) c.with_pieces.ensures in
    record {
      numbers = told_on (λ job. job.number) _ _ _ c.loop-alloc.out.items _ job c.loop-alloc.waiting.items _ room numbered c.in-Some.ensures.items numbered c.loop-alloc.invariant.numbers;
      left = rest_on _ c.loop-alloc.out.items _ job c.loop-alloc.waiting.items _ room numbered c.in-Some.ensures.items c.loop-alloc.invariant.left;
      told = told_on output.Job _ _ _ c.loop-alloc.out.items _ job c.loop-alloc.waiting.items _ room numbered c.in-Some.ensures.items told c.loop-alloc.invariant.told;
    }

use Rattle.gq_collect.specs.World.{definitions_in}
use Rattle.gq_collect.specs.Views.{setting_in}
use Rattle.gq_collect.proofs.CollectLemmas.{group_starts, group_continues, group_done}
use Rattle.gq_meaning.proofs.CollectLemmas.{gathered}
use Rattle.gq_collect.proofs.collect.collect.Goals as goal

pub loop-taken-init : goal.loop-taken-init
loop-taken-init c = group_starts (setting_in c.args.world c.args.object.now) (definitions_in c.args.world) c.args.group.now _ _ c.new.ensures c.new-out.ensures.items

pub loop-taken-preserved : goal.loop-taken-preserved
loop-taken-preserved c =
    group_continues (setting_in c.args.world c.args.object.now) (definitions_in c.args.world) c.args.group.now c.loop-taken.taken-index c.taken-item.result _ _ _ _ c.loop-taken-test.true c.taken-item.is c.loop-taken.invariant c.in_ok-collect_set.ensures

pub returns : goal.returns
returns c = λ rank ranked below.
    gathered (setting_in c.args.world c.args.object.now) (definitions_in c.args.world) rank ranked (group_done (setting_in c.args.world c.args.object.now) (definitions_in c.args.world) c.args.group.now c.loop-taken.taken-index _ _ c.loop-taken-test.false c.loop-taken.invariant) below

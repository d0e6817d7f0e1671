use Rattle.gq_types.specs.Look.{types_view}
use Rattle.gq_types.specs.LookUps.{texts_of}
use Rattle.gq_types.proofs.PossibleLemmas.{member_turn}
use Rattle.gq_types.proofs.possible.members_of.Goals as goal

pub loop-part-preserved : goal.loop-part-preserved
loop-part-preserved c =
    member_turn (types_view c.args.types.now) c.args.parts.now c.loop-part.part-index (texts_of c.loop-part.texts.items) (texts_of c.put_members.new.texts.items) c.loop-part.seen c.put_members.new.seen _ c.loop-part-test.true
    (rw c.members_at.ensures at c.in_ok-put_members.ensures.objects) (rw c.members_at.ensures at c.in_ok-put_members.ensures.all) c.loop-part.invariant

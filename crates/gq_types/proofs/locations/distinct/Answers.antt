use Rattle.gq_types.proofs.IndexLemmas.{kept_turn}
use Rattle.gq_types.proofs.locations.distinct.Goals as goal

pub loop-location-preserved : goal.loop-location-preserved
loop-location-preserved c =
    kept_turn c.args.locations.now c.loop-location.location-index _ c.loop-location.kept.items c.put_location.new.kept.items c.loop-location-test.true c.in_ok-put_location.ensures c.loop-location.invariant

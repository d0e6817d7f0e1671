use Rattle.std.proofs.Common.{rules, ◌≡◌, ◌<◌, length, get_or, ◌∙◌}
use Rattle.gq_graph.proofs.Turning.{put_next}
use Rattle.gq_graph.proofs.transposed.put_all.Goals as goal

pub loop-place-preserved : goal.loop-place-preserved
loop-place-preserved c =
    let lt : c.loop-place.place-index < length c.args.places.now = search rules in
    let e : get_or c.args.places.now c.loop-place.place-index (get_or c.args.places.now c.loop-place.place-index 0)
    ≡ get_or c.args.places.now c.loop-place.place-index 0 = search rules in
    record {
      put = put_next c.args.places.now c.args.number c.loop-place.place-index (get_or c.args.places.now c.loop-place.place-index 0)
          c.args.rows.now.items c.loop-place.rows.items c.put.new.rows.items lt e c.loop-place.invariant.put c.in_ok-put.ensures.put;
      count = c.put.ensures.count ∙ c.loop-place.invariant.count;
    }

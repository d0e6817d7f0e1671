use Rattle.std.proofs.Common.{rules, ◌≡◌, ◌<◌, length, get_or}
use Rattle.gq_graph.proofs.Marking.{grown_next, grown_one}
use Rattle.gq_graph.proofs.gathered.put_all.Goals as goal

pub loop-number-preserved : goal.loop-number-preserved
loop-number-preserved c =
    let lt : c.loop-number.number-index < length c.args.numbers.now = search rules in
    let e : get_or c.args.numbers.now c.loop-number.number-index (get_or c.args.numbers.now c.loop-number.number-index 0)
    ≡ get_or c.args.numbers.now c.loop-number.number-index 0 = search rules in
    record {
      once = c.in_ok-put.ensures.once;
      grown = grown_next c.args.numbers.now c.args.found.now.keys c.loop-number.found.keys c.put.new.found.keys
          c.loop-number.number-index (get_or c.args.numbers.now c.loop-number.number-index 0) lt e
          c.loop-number.invariant.grown
          (grown_one (get_or c.args.numbers.now c.loop-number.number-index 0) c.loop-number.found.keys c.put.new.found.keys c.in_ok-put.ensures.added);
    }

use Rattle.std.proofs.Common.{rules, ◌≡◌, ◌<◌, length, get_or, ◌∙◌}
use Rattle.gq_graph.proofs.Marking.{grown_next, grown_one}
use Rattle.gq_graph.proofs.found.Found.add_all.Goals as goal

pub loop-number-preserved : goal.loop-number-preserved
loop-number-preserved c =
    let lt : c.loop-number.number-index < length c.args.numbers.now = search rules in
    let e : get_or c.args.numbers.now c.loop-number.number-index (get_or c.args.numbers.now c.loop-number.number-index 0)
    ≡ get_or c.args.numbers.now c.loop-number.number-index 0 = search rules in
    record {
      marked = c.in_ok-add.ensures.marked;
      grown = grown_next c.args.numbers.now c.args.self.now.numbers.items c.loop-number.self.numbers.items c.add.new.self.numbers.items
          c.loop-number.number-index (get_or c.args.numbers.now c.loop-number.number-index 0) lt e
          c.loop-number.invariant.grown
          (grown_one (get_or c.args.numbers.now c.loop-number.number-index 0) c.loop-number.self.numbers.items c.add.new.self.numbers.items c.in_ok-add.ensures.added);
      count = c.add.ensures.count ∙ c.loop-number.invariant.count;
    }

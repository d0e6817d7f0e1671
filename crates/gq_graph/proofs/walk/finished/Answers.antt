use Rattle.std.proofs.Common.{rules, ◌≡◌, [], length, replicate, sym, subst, arith}
use Rattle.gq_graph.specs.Helping.Found.{Marked}
use Rattle.gq_graph.specs.Helping.Finished.{Walk}
use Rattle.gq_graph.proofs.Walking.{walk_starts, all_more}
use Rattle.gq_graph.proofs.walk.finished.Goals as goal

pub loop-number-init : goal.loop-number-init
loop-number-init c =
    let none : c.in_ok-finished.finished.numbers.items ≡ [] = c.in_ok-finished.ensures.empty in
    let zeros : c.in_ok-passed.passed.items ≡ replicate (length c.args.rows.now) 0 = search rules in
    let size : length c.in_ok-finished.finished.marks.items ≡ length c.args.rows.now = search rules in
    record {
      walk = subst (λ l. Walk c.args.rows.now l c.in_ok-finished.finished.marks.items c.in_ok-finished.finished.numbers.items []) (sym zeros)
          (subst (λ l. Walk c.args.rows.now (replicate (length c.args.rows.now) 0) c.in_ok-finished.finished.marks.items l []) (sym none)
          (walk_starts c.args.rows.now c.in_ok-finished.finished.marks.items
          (subst (λ l. Marked c.in_ok-finished.finished.marks.items l) none c.in_ok-finished.ensures.marked) size));
      all = λ n lt. absurd (omega (arith, lt));
    }

pub loop-number-preserved : goal.loop-number-preserved
loop-number-preserved c = record {
  walk = c.in_ok-walk.ensures.walk;
  all = all_more c.loop-number.finished.numbers.items c.walk.new.finished.numbers.items c.loop-number.number
      c.loop-number.invariant.all c.in_ok-walk.ensures.kept;
}

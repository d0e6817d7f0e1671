use Rattle.std.proofs.Common.{rules, ◌≡◌, ◌<◌, ◌≤◌, length, drop, get_or, subst, arith}
use Rattle.gq_graph.specs.Reach.{row}
use Rattle.gq_graph.specs.Helping.Found.{Grown}
use Rattle.gq_graph.proofs.Searching.{search_continues, search_next, search_closes, longer_same, longer_next, few, in_range, row_read}
use Rattle.gq_graph.proofs.closing.close.Goals as goal

pub loop-done-init : goal.loop-done-init
loop-done-init c = record {
  search = search_continues (row c.args.rows.now) (length c.args.rows.now) c.args.done c.args.found.now.marks.items
      c.args.found.now.numbers.items c.requires.marked c.requires.count c.requires.done c.requires.led;
  longer = longer_same c.args.found.now.numbers.items;
}

pub loop-done-smaller : goal.loop-done-smaller
loop-done-smaller c =
    let a : length c.loop-done.found.numbers.items ≤ length c.args.rows.now =
    few c.loop-done.found.marks.items c.loop-done.found.numbers.items (length c.args.rows.now)
    c.loop-done.invariant.search.marked c.loop-done.invariant.search.same in
    let b : c.loop-done.done < length c.loop-done.found.numbers.items = search rules in
    omega (arith, a, b)

pub loop-done-preserved : goal.loop-done-preserved
loop-done-preserved c =
    let lt : c.loop-done.done < length c.loop-done.found.numbers.items = search rules in
    let e : get_or c.loop-done.found.numbers.items c.loop-done.done c.index-number.result.now ≡ c.index-number.result.now = search rules in
    let b : c.index-number.result.now < length c.args.rows.now =
    in_range c.loop-done.found.marks.items c.loop-done.found.numbers.items (length c.args.rows.now)
    c.loop-done.done c.index-number.result.now
    c.loop-done.invariant.search.marked c.loop-done.invariant.search.same lt e in
    let g : Grown (row c.args.rows.now c.index-number.result.now) c.loop-done.found.numbers.items c.add_all.new.self.numbers.items =
    subst (λ l. Grown l c.loop-done.found.numbers.items c.add_all.new.self.numbers.items)
    (row_read c.args.rows.now c.index-number.result.now c.index-rows-number.result c.deref.result.now b
    c.index-rows-number.is c.deref.ensures.value)
    c.in_ok-add_all.ensures.grown in
    record {
      search = search_next (drop c.args.done c.args.found.now.numbers.items) (row c.args.rows.now) (length c.args.rows.now) c.args.done
          c.loop-done.found.marks.items c.add_all.new.self.marks.items
          c.loop-done.found.numbers.items c.add_all.new.self.numbers.items c.loop-done.done c.index-number.result.now
          c.loop-done.invariant.search lt e c.in_ok-add_all.ensures.marked c.add_all.ensures.count g;
      longer = longer_next (row c.args.rows.now c.index-number.result.now) c.args.found.now.numbers.items
          c.loop-done.found.numbers.items c.add_all.new.self.numbers.items c.loop-done.invariant.longer g;
    }

pub returns-clause-closed : goal.returns-clause-closed
returns-clause-closed c =
    search_closes (row c.args.rows.now) (length c.args.rows.now) c.args.done c.loop-done.found.marks.items
    c.args.found.now.numbers.items c.loop-done.found.numbers.items c.loop-done.done
    c.requires.done c.loop-done.invariant.longer c.loop-done.invariant.search
    (λ h. let l : length c.loop-done.found.numbers.items ≤ c.loop-done.done = search rules in omega (arith, h, l))

use Rattle.std.proofs.Common.{rules, ◌≡◌, ◌<◌, ◌++◌, ◌∷◌, [], length, sym, ◌∙◌, subst, ap, ℕ, List}
use Rattle.std.specs.Prelude.{All}
use Rattle.std.specs.declared.vec.Vec.{Vec}
use Rattle.std.specs.declared.alloc.Global.{Global}
use Rattle.gq_graph.specs.Reach.{row, InRange}
use Rattle.gq_graph.specs.Components.{Led, Collected}
use Rattle.gq_graph.proofs.Searching.{row_read, row_in_range}
use Rattle.gq_graph.proofs.Turning.{turned_in_range}
use Rattle.gq_graph.proofs.Collecting.{Components, components_next, components_end, turn_range}
use Rattle.gq_graph.proofs.cycles.on_cycles.Goals as goal

pub collect-requires-clause-back : goal.collect-requires-clause-back
collect-requires-clause-back c =
    subst (λ l. InRange l) (sym c.deref-in-Some.ensures.value)
    (turned_in_range c.args.rows.now c.in_ok-back.back.items c.in_ok-back.ensures)

pub collect-requires-clause-range : goal.collect-requires-clause-range
collect-requires-clause-range c =
    let order : c.loop-number.order.items ≡ c.pop.new.self.items ++ c.in-Some.number ∷ [] = c.in-Some.ensures.items in
    let size : length c.deref-in-Some.result.now ≡ length c.args.rows.now =
    ap (λ l. length l) c.deref-in-Some.ensures.value ∙ c.in_ok-back.ensures.count in
    subst (λ k. c.in-Some.number < k) (sym size)
    (turn_range c.args.rows.now c.in_ok-back.back.items c.pop.new.self.items c.in-Some.number c.loop-number.found.marks.items
    c.loop-number.found.numbers.items c.loop-number.marks.items
    (subst (λ l. Components c.args.rows.now c.in_ok-back.back.items l c.loop-number.found.marks.items c.loop-number.found.numbers.items c.loop-number.marks.items)
    order c.loop-number.invariant))

pub collect-requires-clause-ahead : goal.collect-requires-clause-ahead
collect-requires-clause-ahead c =
    let order : c.loop-number.order.items ≡ c.pop.new.self.items ++ c.in-Some.number ∷ [] = c.in-Some.ensures.items in
    let size : length c.deref-in-Some.result.now ≡ length c.args.rows.now =
    ap (λ l. length l) c.deref-in-Some.ensures.value ∙ c.in_ok-back.ensures.count in
    subst (λ k. All (λ n. n < k) c.deref.result.now) (sym size)
    (row_in_range c.args.rows.now c.in-Some.number c.index-rows-number.result c.deref.result.now c.requires.rows
    (turn_range c.args.rows.now c.in_ok-back.back.items c.pop.new.self.items c.in-Some.number c.loop-number.found.marks.items
    c.loop-number.found.numbers.items c.loop-number.marks.items
    (subst (λ l. Components c.args.rows.now c.in_ok-back.back.items l c.loop-number.found.marks.items c.loop-number.found.numbers.items c.loop-number.marks.items)
    order c.loop-number.invariant))
    c.index-rows-number.is c.deref.ensures.value)

pub collect-requires-clause-led : goal.collect-requires-clause-led
collect-requires-clause-led c =
    subst (λ l. Led (row l) c.loop-number.found.numbers.items c.loop-number.found.numbers.items) (sym c.deref-in-Some.ensures.value)
    c.loop-number.invariant.led

pub loop-number-preserved : goal.loop-number-preserved
loop-number-preserved c =
    let order : c.loop-number.order.items ≡ c.pop.new.self.items ++ c.in-Some.number ∷ [] = c.in-Some.ensures.items in
    let now : Components c.args.rows.now c.in_ok-back.back.items (c.pop.new.self.items ++ c.in-Some.number ∷ []) c.loop-number.found.marks.items
    c.loop-number.found.numbers.items c.loop-number.marks.items =
    subst (λ l. Components c.args.rows.now c.in_ok-back.back.items l c.loop-number.found.marks.items c.loop-number.found.numbers.items c.loop-number.marks.items)
    order c.loop-number.invariant in
    let ahead : c.deref.result.now ≡ row c.args.rows.now c.in-Some.number =
    row_read c.args.rows.now c.in-Some.number c.index-rows-number.result c.deref.result.now
    (turn_range c.args.rows.now c.in_ok-back.back.items c.pop.new.self.items c.in-Some.number c.loop-number.found.marks.items
    c.loop-number.found.numbers.items c.loop-number.marks.items now)
    c.index-rows-number.is c.deref.ensures.value in
    components_next c.args.rows.now c.in_ok-back.back.items c.pop.new.self.items c.in-Some.number
    c.loop-number.found.marks.items c.collect.new.found.marks.items c.loop-number.marks.items c.collect.new.marks.items
    c.loop-number.found.numbers.items c.collect.new.found.numbers.items
    c.requires.rows c.in_ok-back.ensures now
    (subst (λ l. Collected l (row c.in_ok-back.back.items) c.in-Some.number c.loop-number.found.numbers.items c.collect.new.found.numbers.items
    c.loop-number.marks.items c.collect.new.marks.items) ahead
    (subst (λ (b : List (Vec ℕ Global)). Collected c.deref.result.now (row b) c.in-Some.number c.loop-number.found.numbers.items c.collect.new.found.numbers.items
    c.loop-number.marks.items c.collect.new.marks.items) c.deref-in-Some.ensures.value c.in_ok-collect.ensures.collected))
    c.in_ok-collect.ensures.marked
    (c.in_ok-collect.ensures.count ∙ c.loop-number.invariant.found_count)
    c.collect.ensures.marks

pub returns-clause-exact : goal.returns-clause-exact
returns-clause-exact c =
    let none : c.loop-number.order.items ≡ [] = search rules in
    components_end c.args.rows.now c.in_ok-back.back.items c.loop-number.found.marks.items c.loop-number.found.numbers.items c.loop-number.marks.items
    (subst (λ l. Components c.args.rows.now c.in_ok-back.back.items l c.loop-number.found.marks.items c.loop-number.found.numbers.items c.loop-number.marks.items)
    none c.loop-number.invariant)

use Rattle.std.proofs.Common.{rules, ◌≡◌, ◌<◌, ◌++◌, ◌∷◌, [], length, sym, ◌∙◌, subst, ap, ℕ, List}
use Rattle.std.specs.declared.vec.Vec.{Vec}
use Rattle.std.specs.declared.alloc.Global.{Global}
use Rattle.gq_graph.specs.Reach.{row, InRange}
use Rattle.gq_graph.specs.Components.{Led}
use Rattle.gq_graph.specs.Helping.Mutual.{Gathered}
use Rattle.gq_graph.proofs.Turning.{turned_in_range}
use Rattle.gq_graph.proofs.Grouping.{Groups, groups_next, groups_end, group_range}
use Rattle.gq_graph.proofs.strongly_connected.components.Goals as goal

pub gather-requires-clause-back : goal.gather-requires-clause-back
gather-requires-clause-back c =
    subst (λ l. InRange l) (sym c.deref.ensures.value)
    (turned_in_range c.args.rows.now c.in_ok-back.back.items c.in_ok-back.ensures)

pub gather-requires-clause-range : goal.gather-requires-clause-range
gather-requires-clause-range c =
    let order : c.loop-number.order.items ≡ c.pop.new.self.items ++ c.in-Some.number ∷ [] = c.in-Some.ensures.items in
    let size : length c.deref.result.now ≡ length c.args.rows.now =
    ap (λ l. length l) c.deref.ensures.value ∙ c.in_ok-back.ensures.count in
    subst (λ k. c.in-Some.number < k) (sym size)
    (group_range c.args.rows.now c.in_ok-back.back.items c.pop.new.self.items c.in-Some.number c.loop-number.found.marks.items
    c.loop-number.found.numbers.items c.loop-number.components.items
    (subst (λ l. Groups c.args.rows.now c.in_ok-back.back.items l c.loop-number.found.marks.items c.loop-number.found.numbers.items c.loop-number.components.items)
    order c.loop-number.invariant))

pub gather-requires-clause-led : goal.gather-requires-clause-led
gather-requires-clause-led c =
    subst (λ l. Led (row l) c.loop-number.found.numbers.items c.loop-number.found.numbers.items) (sym c.deref.ensures.value)
    c.loop-number.invariant.led

pub loop-number-preserved : goal.loop-number-preserved
loop-number-preserved c =
    let order : c.loop-number.order.items ≡ c.pop.new.self.items ++ c.in-Some.number ∷ [] = c.in-Some.ensures.items in
    groups_next c.args.rows.now c.in_ok-back.back.items c.pop.new.self.items c.in-Some.number
    c.loop-number.found.marks.items c.gather.new.found.marks.items
    c.loop-number.found.numbers.items c.gather.new.found.numbers.items c.loop-number.components.items c.gather.new.components.items
    c.requires.rows c.in_ok-back.ensures
    (subst (λ l. Groups c.args.rows.now c.in_ok-back.back.items l c.loop-number.found.marks.items c.loop-number.found.numbers.items c.loop-number.components.items)
    order c.loop-number.invariant)
    (subst (λ (b : List (Vec ℕ Global)). Gathered (row b) c.in-Some.number c.loop-number.found.numbers.items c.gather.new.found.numbers.items
    c.loop-number.components.items c.gather.new.components.items) c.deref.ensures.value c.in_ok-gather.ensures.gathered)
    c.in_ok-gather.ensures.marked
    (c.in_ok-gather.ensures.count ∙ c.loop-number.invariant.found_count)
    c.gather.ensures.components

pub returns-clause-exact : goal.returns-clause-exact
returns-clause-exact c =
    let none : c.loop-number.order.items ≡ [] = search rules in
    groups_end c.args.rows.now c.in_ok-back.back.items c.loop-number.found.marks.items c.loop-number.found.numbers.items c.loop-number.components.items
    (subst (λ l. Groups c.args.rows.now c.in_ok-back.back.items l c.loop-number.found.marks.items c.loop-number.found.numbers.items c.loop-number.components.items)
    none c.loop-number.invariant)

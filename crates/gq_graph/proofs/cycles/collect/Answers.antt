use Rattle.std.proofs.Common.{rules, ◌≡◌, ◌<◌, ◌-◌, length, drop, sym, ◌∙◌, subst, ℕ}
use Rattle.std.specs.Prelude.{All}
use Rattle.std.proofs.lemmas.List.Elements.{All-take, All-drop, All-weaker}
use Rattle.gq_graph.specs.Reach.{row}
use Rattle.gq_graph.specs.Components.{SomeMarked}
use Rattle.gq_graph.proofs.Collecting.{led_added, Part, part, collected, collected_unmarked}
use Rattle.gq_graph.proofs.cycles.collect.Goals as goal

pub close-requires-clause-led : goal.close-requires-clause-led
close-requires-clause-led c =
    let from : c.len-from.result ≡ length c.args.found.now.numbers.items = search rules in
    led_added (row c.args.back.now) c.args.found.now.numbers.items c.add.new.self.numbers.items c.args.number c.len-from.result
    c.requires.led c.in_ok-add.ensures.added from

pub mark_all-requires : goal.mark_all-requires
mark_all-requires c =
    let whole : c.deref-then-some_marked.result.now ≡ c.close.new.found.numbers.items = c.deref-then-some_marked.ensures.value in
    let size : length c.close.new.found.marks.items ≡ length c.args.marks.now.items =
    c.in_ok-close.ensures.count ∙ c.add.ensures.count ∙ c.requires.count ∙ sym c.requires.marks in
    let P : ℕ → Type 0 = λ n. n < length c.args.marks.now.items in
    record {
      range =
          All-take P (length c.deref-then-some_marked.result.now - c.len-from.result) (drop c.len-from.result c.deref-then-some_marked.result.now)
          (All-drop P c.len-from.result c.deref-then-some_marked.result.now
          (subst (λ l. All P l) (sym whole)
          (All-weaker (λ n. n < length c.close.new.found.marks.items) P (λ n h. subst (λ k. n < k) size h)
          c.close.new.found.numbers.items c.in_ok-close.ensures.marked.within)));
    }

pub returns-then-some_marked-clause-collected : goal.returns-then-some_marked-clause-collected
returns-then-some_marked-clause-collected c =
    let from : c.len-from.result ≡ length c.args.found.now.numbers.items = search rules in
    let p : Part (row c.args.back.now) c.args.number c.args.found.now.numbers.items c.close.new.found.numbers.items =
    part (row c.args.back.now) c.args.number c.len-from.result c.args.found.now.numbers.items c.add.new.self.numbers.items
    c.close.new.found.numbers.items c.in_ok-add.ensures.added from c.in_ok-close.ensures.closed in
    let some : SomeMarked c.args.ahead.now c.close.new.found.marks.items = search rules in
    collected c.args.ahead.now (row c.args.back.now) c.args.number c.len-from.result c.args.found.now.numbers.items
    c.close.new.found.numbers.items c.deref-then-some_marked.result.now
    c.close.new.found.marks.items c.args.marks.now.items c.mark_all.new.marks.items p from c.deref-then-some_marked.ensures.value
    c.in_ok-close.ensures.marked some c.mark_all.ensures.also

pub returns-else-some_marked-clause-collected : goal.returns-else-some_marked-clause-collected
returns-else-some_marked-clause-collected c =
    let from : c.len-from.result ≡ length c.args.found.now.numbers.items = search rules in
    let p : Part (row c.args.back.now) c.args.number c.args.found.now.numbers.items c.close.new.found.numbers.items =
    part (row c.args.back.now) c.args.number c.len-from.result c.args.found.now.numbers.items c.add.new.self.numbers.items
    c.close.new.found.numbers.items c.in_ok-add.ensures.added from c.in_ok-close.ensures.closed in
    let none : SomeMarked c.args.ahead.now c.close.new.found.marks.items → ⊥ = search rules in
    collected_unmarked c.args.ahead.now (row c.args.back.now) c.args.number c.args.found.now.numbers.items c.close.new.found.numbers.items
    c.close.new.found.marks.items c.args.marks.now.items p c.in_ok-close.ensures.marked none

use Rattle.std.proofs.Common.{rules, ◌≡◌, ◌<◌, ◌-◌, length, drop, sym, ◌∙◌, subst, ℕ}
use Rattle.std.specs.Prelude.{All}
use Rattle.std.proofs.lemmas.List.Elements.{All-take, All-drop, All-weaker}
use Rattle.gq_graph.specs.Reach.{row}
use Rattle.gq_graph.proofs.Collecting.{led_added, Part, part}
use Rattle.gq_graph.proofs.Grouping.{gathered}
use Rattle.gq_graph.proofs.strongly_connected.gather.Goals as goal

pub close-requires-clause-led : goal.close-requires-clause-led
close-requires-clause-led c =
    let from : c.len-from.result ≡ length c.args.found.now.numbers.items = search rules in
    led_added (row c.args.back.now) c.args.found.now.numbers.items c.add.new.self.numbers.items c.args.number c.len-from.result
    c.requires.led c.in_ok-add.ensures.added from

pub assign-requires : goal.assign-requires
assign-requires c =
    let whole : c.deref.result.now ≡ c.close.new.found.numbers.items = c.deref.ensures.value in
    let size : length c.close.new.found.marks.items ≡ length c.args.components.now.items =
    c.in_ok-close.ensures.count ∙ c.add.ensures.count ∙ c.requires.count ∙ sym c.requires.components in
    let P : ℕ → Type 0 = λ n. n < length c.args.components.now.items in
    record {
      range =
          All-take P (length c.deref.result.now - c.len-from.result) (drop c.len-from.result c.deref.result.now)
          (All-drop P c.len-from.result c.deref.result.now
          (subst (λ l. All P l) (sym whole)
          (All-weaker (λ n. n < length c.close.new.found.marks.items) P (λ n h. subst (λ k. n < k) size h)
          c.close.new.found.numbers.items c.in_ok-close.ensures.marked.within)));
    }

pub returns-clause-gathered : goal.returns-clause-gathered
returns-clause-gathered c =
    let from : c.len-from.result ≡ length c.args.found.now.numbers.items = search rules in
    let p : Part (row c.args.back.now) c.args.number c.args.found.now.numbers.items c.close.new.found.numbers.items =
    part (row c.args.back.now) c.args.number c.len-from.result c.args.found.now.numbers.items c.add.new.self.numbers.items
    c.close.new.found.numbers.items c.in_ok-add.ensures.added from c.in_ok-close.ensures.closed in
    gathered (row c.args.back.now) c.args.number c.len-from.result c.args.found.now.numbers.items
    c.close.new.found.numbers.items c.deref.result.now
    c.args.components.now.items c.assign.new.components.items p from c.deref.ensures.value c.assign.ensures.assigned

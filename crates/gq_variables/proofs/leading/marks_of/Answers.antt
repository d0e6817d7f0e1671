use Rattle.std.proofs.Common.{rules, ◌≡◌, ◌+◌, ◌<◌, ◌≤◌, length, List, ℕ, Bool, false, replicate, sym, ap, subst, ◌∙◌, arith, Vec, Global}
use Rattle.std.specs.Prelude.{All}
use Rattle.std.proofs.lemmas.List.Elements.{All-weaker}
use Rattle.gq_graph.specs.Reach.{InRange}
use Rattle.gq_graph.specs.Transposed.{Transposed}
use Rattle.gq_graph.specs.Components.{Also}
use Rattle.gq_graph.proofs.Turning.{turned_in_range}
use Rattle.gq_variables.specs.Helping.Leading.{numbers_with_uses}
use Rattle.gq_variables.specs.Helping.Views.{rows_view}
use Rattle.gq_variables.proofs.LeadingLemmas.{numbers_below, lead_to_uses}
use Rattle.gq_variables.proofs.leading.marks_of.Goals as goal

pub reach_rows-requires-clause-starts : goal.reach_rows-requires-clause-starts
reach_rows-requires-clause-starts c =
    let rows = rows_view c.args.rows.now in
    let back = c.deref.result.now in
    let numbers : c.deref-2.result.now ≡ numbers_with_uses 0 rows = c.deref-2.ensures.value ∙ c.in_ok-numbers.ensures in
    let count : length c.args.spreads.now ≡ length back = sym c.in_ok-back.ensures.count ∙ ap (λ (l : List (Vec ℕ Global)). length l) (sym c.deref.ensures.value) in
    let size : length rows ≤ length back = omega (arith, c.requires.rows, count) in
    subst (λ ns. All (λ n. n < length back) ns) (sym numbers)
    (All-weaker (λ n. n < 0 + length rows) (λ n. n < length back) (λ n below. omega (arith, below, size)) (numbers_with_uses 0 rows) (numbers_below 0 rows))

pub reach_rows-requires-clause-rows : goal.reach_rows-requires-clause-rows
reach_rows-requires-clause-rows c = subst InRange (sym c.deref.ensures.value) (turned_in_range c.args.spreads.now c.in_ok-back.back.items c.in_ok-back.ensures)

pub returns-clause-marks : goal.returns-clause-marks
returns-clause-marks c =
    let rows = rows_view c.args.rows.now in
    let numbers : c.deref-2.result.now ≡ numbers_with_uses 0 rows = c.deref-2.ensures.value ∙ c.in_ok-numbers.ensures in
    let turned : Transposed c.args.spreads.now c.deref.result.now = subst (λ (b : List (Vec ℕ Global)). Transposed c.args.spreads.now b) (sym c.deref.ensures.value) c.in_ok-back.ensures in
    let none : c.in_ok-marks.marks.items ≡ replicate (length c.args.spreads.now) false = search rules in
    let also : Also c.in_ok-leading.leading.items (replicate (length c.args.spreads.now) false) c.mark_all.new.marks.items =
    subst (λ (ns : List ℕ). Also ns (replicate (length c.args.spreads.now) false) c.mark_all.new.marks.items) c.deref-3.ensures.value
    (subst (λ (old : List Bool). Also c.deref-3.result.now old c.mark_all.new.marks.items) none c.mark_all.ensures.also) in
    lead_to_uses rows c.args.spreads.now c.deref.result.now c.deref-2.result.now c.in_ok-leading.leading.items (length c.args.spreads.now) c.mark_all.new.marks.items numbers turned
    c.in_ok-leading.ensures.sound c.in_ok-leading.ensures.complete also

use Rattle.std.proofs.Common.{◌≡◌, ◌<◌, List, ℕ, Vec, Global, length, sym, ap, subst, ◌∙◌, arith}
use Rattle.std.specs.Prelude.{All, filter}
use Rattle.std.specs.Bool.{nat_lt}
use Rattle.std.proofs.lemmas.List.{length-map}
use Rattle.std.proofs.lemmas.Result.{IfOk-weaker}
use Rattle.gq_graph.specs.Reach.{row, InRange, NoneTwice}
use Rattle.gq_graph.proofs.Searching.{row_at}
use Rattle.gq_document.specs.Definitions.{fragment_view}
use Rattle.gq_document.specs.Executable.{executable_view}
use Rattle.gq_spreads.proofs.OnceLemmas.{once_filter}
use Rattle.gq_spreads.proofs.SpreadLemmas.{row_inside, are_reached}
use Rattle.gq_spreads.proofs.spreads.reached_fragments.Goals as goal

pub reach_rows-requires-clause-starts : goal.reach_rows-requires-clause-starts
reach_rows-requires-clause-starts c =
    let s = c.args.spreads.now in
    let below : c.args.operation < length s.of_operations.items = omega (arith, c.requires.operation, c.requires.spreads.operations) in
    let first = c.deref-2.ensures.value ∙ ap (λ (v : Vec ℕ Global). v.items) c.index-starts.ensures ∙ sym (row_at s.of_operations.items c.args.operation c.index-starts.result.now below) in
    subst (λ (ns : List ℕ). All (λ n. n < length c.deref.result.now) ns) (sym first)
    (subst (λ (rows : List (Vec ℕ Global)). All (λ n. n < length rows) (row s.of_operations.items c.args.operation)) (sym c.deref.ensures.value)
    (row_inside s.of_operations.items (length s.of_fragments.items) c.requires.spreads.starts c.args.operation))

pub reach_rows-requires-clause-rows : goal.reach_rows-requires-clause-rows
reach_rows-requires-clause-rows c = subst (λ (rows : List (Vec ℕ Global)). InRange rows) (sym c.deref.ensures.value) c.requires.spreads.range

pub returns-clause-reached : goal.returns-clause-reached
returns-clause-reached c =
    let x = executable_view c.args.executable.now in
    let s = c.args.spreads.now in
    let inside : c.args.operation < length s.of_operations.items = omega (arith, c.requires.operation, c.requires.spreads.operations) in
    let first = c.deref-2.ensures.value ∙ ap (λ (v : Vec ℕ Global). v.items) c.index-starts.ensures ∙ sym (row_at s.of_operations.items c.args.operation c.index-starts.result.now inside) in
    let size = length c.args.executable.now.fragments.now in
    let count : size ≡ length x.fragments = sym (length-map c.args.executable.now.fragments.now fragment_view) in
    IfOk-weaker c.below.result _ _
    (λ all is. are_reached x s c.requires.spreads c.args.operation c.deref-2.result.now c.deref.result.now first c.deref.ensures.value c.in_ok-found.found.items all.items
    c.in_ok-found.ensures.sound c.in_ok-found.ensures.complete
    (is ∙ ap (λ ns. filter (λ n. nat_lt n size) ns) c.deref-3.ensures.value ∙ ap (λ k. filter (λ n. nat_lt n k) c.in_ok-found.found.items) count))
    c.below.ensures

pub returns-clause-once : goal.returns-clause-once
returns-clause-once c =
    let size = length c.args.executable.now.fragments.now in
    IfOk-weaker c.below.result _ _
    (λ all is. subst NoneTwice (sym (is ∙ ap (λ ns. filter (λ n. nat_lt n size) ns) c.deref-3.ensures.value))
    (once_filter (λ n. nat_lt n size) c.in_ok-found.found.items c.in_ok-found.ensures.once))
    c.below.ensures

use Rattle.std.proofs.Common.{rules, ◌≡◌, length, [], ◌∷◌, subst, sym, Contains}
use Rattle.std.specs.Prelude.{filter}
use Rattle.std.specs.Bool.{nat_lt}
use Rattle.std.proofs.lemmas.List.Filters.{dedup_is}
use Rattle.std.proofs.lemmas.List.Elements.{All-contains}
use Rattle.std.proofs.lemmas.List.Kept.{Contains-dedup_nat, Contains-from_dedup}
use Rattle.std.proofs.lemmas.List.Sorted.{Contains-permutation, IsPermutation-sym}
use Rattle.std.proofs.lemmas.Map.Keys.{IsStrictlyIncreasing-dedup}
use Rattle.std.proofs.lemmas.Bool.{lt-ltb, ltb-true}
use Rattle.gq_graph.specs.Reach.{Reach}
use Rattle.gq_types.proofs.Gathered.{from_filter, to_filter}
use Rattle.gq_index.specs.Helping.GroupGraphs.{leads_of}
use Rattle.gq_index.specs.Helping.Shared.{shared}
use Rattle.gq_index.proofs.SharedLemmas.{reached_group, group_reached}
use Rattle.gq_index.proofs.index.Index.variable_group.Goals as goal

pub returns-clause-ascending : goal.returns-clause-ascending
returns-clause-ascending c = rw (dedup_is _ _ _ c.dedup.ensures.filtered) (IsStrictlyIncreasing-dedup _ c.sort_unstable.ensures.sorted)

pub returns-clause-group : goal.returns-clause-group
returns-clause-group c ds is inside n =
    let tables = c.args.self.now.tables in
    let text = c.args.name.now in
    let once = dedup_is _ _ _ c.dedup.ensures.filtered in
    let moved = c.sort_unstable.ensures.permutation in
    let reached = c.in_ok-reached.reached.items in
    let count = length tables.spread_in.items in
    let kept : c.in_ok-numbers.numbers.items ≡ filter (λ m. nat_lt m count) reached = search rules in (
      λ there.
          let sorted = Contains-permutation _ _ n (IsPermutation-sym _ _ moved) (Contains-from_dedup _ _ n (rw once at there)) in
          let f = from_filter (λ m. nat_lt m count) reached n (subst (λ l. Contains l n) kept sorted) in
          let way : Reach (c.args.definition ∷ []) (leads_of (shared tables text)) n = All-contains (λ m. Reach (c.args.definition ∷ []) (leads_of (shared tables text)) m) reached n c.in_ok-reached.ensures.sound f.0 in
          reached_group ds tables is.tables text c.args.definition n inside (ltb-true n count f.1, way),
      λ member.
          let r = group_reached ds tables is.tables text c.args.definition n inside member in
          let there : Contains reached n = c.in_ok-reached.ensures.complete n r.1 in
          let held : Contains c.in_ok-numbers.numbers.items n = subst (λ l. Contains l n) (sym kept) (to_filter (λ m. nat_lt m count) reached n there (lt-ltb n count r.0)) in
          rw once (Contains-dedup_nat _ n (Contains-permutation _ _ n moved held)),
    )

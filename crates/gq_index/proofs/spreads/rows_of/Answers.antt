-- The places of one part more are gone over.
use Rattle.std.proofs.Common.{◌≡◌, ◌+◌, List, drop, refl, subst, sym, ◌∙◌}
use Rattle.gq_index.specs.declared.fragments.Fragments.{Fragments}
use Rattle.gq_index.specs.declared.placed.Placed.{Placed}
use Rattle.gq_index.specs.Helping.PlacedParts.{placed_part, placed_view}
use Rattle.gq_index.specs.Helping.SpreadNumbers.{spread_numbers}
use Rattle.gq_index.specs.Helping.SpreadPlaces.{ArePlaces, all_spreads}
use Rattle.gq_index.specs.Helping.StandingParts.{numbers_under_names}
use Rattle.gq_index.proofs.SpreadPlaceLemmas.{numbers_by_places, part_split, rows_next}
use Rattle.gq_index.proofs.spreads.rows_of.Goals as goal

pub split_at-requires : goal.split_at-requires
split_at-requires c = (part_split c.args.fragments.now.names c.args.parts.now c.loop-one.one-index c.one-item.result _ c.loop-one.rest.now c.loop-one-test.true c.one-item.is refl c.loop-one.invariant.1).0

pub loop-one-preserved : goal.loop-one-preserved
loop-one-preserved c =
    let fragments : Fragments = c.args.fragments.now in
    let parts : List Placed = c.args.parts.now in
    let i = c.loop-one.one-index in
    let one : Placed = c.one-item.result in
    let split = part_split fragments.names parts i one _ c.loop-one.rest.now c.loop-one-test.true c.one-item.is refl c.loop-one.invariant.1 in
    let row : c.in_ok-numbers_of.field-0.items ≡ spread_numbers (numbers_under_names fragments) (placed_part one).part.spreads =
    c.in_ok-numbers_of.ensures ∙ numbers_by_places fragments _ _ (subst (λ ks. ArePlaces fragments.names (placed_part one).part.spreads ks) (sym c.split_at.ensures.front) split.1) in (
      rows_next (numbers_under_names fragments) parts i one c.loop-one.rows.items c.push.new.self.items c.in_ok-numbers_of.field-0 _ c.loop-one-test.true c.one-item.is c.in_ok-push.ensures.items row c.loop-one.invariant.0,
      subst (λ ks. ArePlaces fragments.names (all_spreads (placed_view (drop (i + 1) parts))) ks) (sym c.split_at.ensures.back) split.2,
    )

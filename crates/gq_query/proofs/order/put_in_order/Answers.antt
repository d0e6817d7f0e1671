use Rattle.std.proofs.lemmas.List.Filters.{dedup_is}
use Rattle.std.proofs.lemmas.List.Kept.{Contains-dedup, Contains-from_dedup, IsStrictlySortedBy-dedup}
use Rattle.std.proofs.lemmas.List.Sorted.{Contains-permutation, IsPermutation-sym}
use Rattle.gq_query.specs.contracts.order.PlaceOrd.TheImpl.Laws as order
use Rattle.gq_query.specs.contracts.order.PlaceEq.TheImpl.Laws as equality
use Rattle.gq_query.proofs.Ordered.{by_place_cmp, same_place}
use Rattle.gq_query.proofs.order.put_in_order.Goals as goal

pub returns-clause-sorted : goal.returns-clause-sorted
returns-clause-sorted c =
    rw (dedup_is _ _ _ c.dedup.ensures.filtered) (by_place_cmp _ (IsStrictlySortedBy-dedup order.total-law order.matches_eq-law _ c.sort_unstable.ensures.sorted))

pub returns-clause-same : goal.returns-clause-same
returns-clause-same c place =
    let once = dedup_is _ _ _ c.dedup.ensures.filtered in
    let moved = c.sort_unstable.ensures.permutation in (
      (λ h. Contains-permutation _ _ place (IsPermutation-sym _ _ moved) (Contains-from_dedup _ _ place (rw once at h))),
      λ h. rw once (Contains-dedup equality.laws-law same_place _ place (Contains-permutation _ _ place moved h)),
    )

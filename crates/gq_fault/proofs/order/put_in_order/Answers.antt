use Rattle.std.proofs.lemmas.List.Filters.{dedup_is}
use Rattle.std.proofs.lemmas.List.Kept.{Contains-dedup, Contains-from_dedup, IsStrictlySortedBy-dedup}
use Rattle.std.proofs.lemmas.List.Sorted.{Contains-permutation, IsPermutation-sym}
use Rattle.gq_fault.specs.contracts.fault.FaultOrd.TheImpl.Laws as order
use Rattle.gq_fault.specs.contracts.fault.FaultEq.TheImpl.Laws as equality
use Rattle.gq_fault.proofs.OrderLemmas.{by_item_cmp, same_item}
use Rattle.gq_fault.proofs.order.put_in_order.Goals as goal

pub returns-clause-sorted : goal.returns-clause-sorted
returns-clause-sorted c =
    rw (dedup_is _ _ _ c.dedup.ensures.filtered) (by_item_cmp _ (IsStrictlySortedBy-dedup order.total-law order.matches_eq-law _ c.sort_unstable.ensures.sorted))

pub returns-clause-same : goal.returns-clause-same
returns-clause-same c fault =
    let once = dedup_is _ _ _ c.dedup.ensures.filtered in
    let moved = c.sort_unstable.ensures.permutation in (
      (λ h. Contains-permutation _ _ fault (IsPermutation-sym _ _ moved) (Contains-from_dedup _ _ fault (rw once at h))),
      λ h. rw once (Contains-dedup equality.laws-law same_item _ fault (Contains-permutation _ _ fault moved h)),
    )

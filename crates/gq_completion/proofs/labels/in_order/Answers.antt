use Rattle.std.proofs.lemmas.List.Filters.{dedup_is}
use Rattle.std.proofs.lemmas.List.Kept.{Contains-dedup, Contains-from_dedup, IsStrictlySortedBy-dedup}
use Rattle.std.proofs.lemmas.List.Sorted.{Contains-permutation, IsPermutation-sym}
use Rattle.std.proofs.lemmas.Slice.Eq.{bytes_eq-Decides}
use Rattle.gq_text.specs.contracts.owned.OwnedTextOrd.TheImpl.Laws as order
use Rattle.gq_text.specs.contracts.owned.OwnedTextEq.TheImpl.Laws as equality
use Rattle.gq_completion.proofs.labels.in_order.Goals as goal

pub returns-clause-sorted : goal.returns-clause-sorted
returns-clause-sorted c =
    rw (dedup_is _ _ _ c.dedup.ensures.filtered) (IsStrictlySortedBy-dedup order.total-law order.matches_eq-law _ c.sort_unstable.ensures.sorted)

pub returns-clause-same : goal.returns-clause-same
returns-clause-same c name =
    let once = dedup_is _ _ _ c.dedup.ensures.filtered in
    let moved = c.sort_unstable.ensures.permutation in (
      (λ h. Contains-permutation _ _ name (IsPermutation-sym _ _ moved) (Contains-from_dedup _ _ name (rw once at h))),
      λ h. rw once (Contains-dedup equality.laws-law (λ a b same. (bytes_eq-Decides a b).0 same) _ name (Contains-permutation _ _ name moved h)),
    )

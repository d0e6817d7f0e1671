-- Offsets in order, and the positions that are found for them.
use Rattle.std.proofs.Common.{◌≡◌, ℕ, ◌+◌, ◌<◌, List, length, get_or, map, ap, ◌∙◌, arith}
use Rattle.std.specs.List.{HoldsAt}
use Rattle.std.specs.List.Sorted.{IsSorted, IsNonDecreasing}
use Rattle.std.specs.Ordering.{nat_cmp}
use Rattle.std.specs.declared.cmp.Ordering.TheVariants.{Equal}
use Rattle.std.proofs.lemmas.List.{get_or-map}
use Rattle.std.proofs.lemmas.List.Sorted.{IsNonDecreasingBy-from_all_adjacent}
use Rattle.std.proofs.lemmas.Map.Keys.{ge_from_not_lt}
use Rattle.std.proofs.lemmas.Map.Lookups.{exact_unsigned}
use Rattle.gq_text.specs.Place.{pos}
use Rattle.gq_text.specs.declared.place.Position.{Position}
use Rattle.gq_text.specs.declared.place.PositionEncoding.{PositionEncoding}

-- what a sort leaves never falls
pub ascend-sorted : (xs : List ℕ) → IsSorted nat_cmp xs → IsNonDecreasing xs
ascend-sorted xs h = IsNonDecreasingBy-from_all_adjacent (λ x. x) xs (λ k d lt. ge_from_not_lt (get_or xs (k + 1) d) (get_or xs k d) (h k d (omega arith) lt))

-- the position beside an offset is that of the offset
pub position-found : (encoding : PositionEncoding) (text offsets : List ℕ) (positions : List Position) (start index : ℕ) (d : Position) → positions ≡ map (pos encoding text) offsets → index < length offsets
    → HoldsAt (λ y. nat_cmp y start ≡ Equal) offsets index → get_or positions index d ≡ pos encoding text start
position-found encoding text offsets positions start index d are lt here =
    ap (λ (ps : List Position). get_or ps index d) are ∙ get_or-map (pos encoding text) offsets index 0 d lt ∙ ap (pos encoding text) (exact_unsigned (get_or offsets index 0) start (here 0))

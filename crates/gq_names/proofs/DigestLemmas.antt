-- A text's number, four bytes at a time.
use Rattle.std.proofs.Common.{◌≡◌, ℕ, ◌-◌, ◌≤◌, List, [], ◌∷◌, drop, get_or, length, take, sym, ap, arith}
use Rattle.std.proofs.lemmas.List.{take_all}
use Rattle.gq_names.specs.Helping.Places.{digest_from, joined, mixed}

-- the first four bytes are added at once
pub four_at_once : (number : ℕ) (bytes : List ℕ) → 4 ≤ length bytes
    → digest_from number bytes ≡ digest_from (mixed number (joined (get_or bytes 0 0) (get_or bytes 1 0) (get_or bytes 2 0) (get_or bytes 3 0))) (take (length bytes - 4) (drop 4 bytes))
four_at_once number [] many = absurd (omega (arith, many))
four_at_once number (a ∷ []) many = absurd (omega (arith, many))
four_at_once number (a ∷ b ∷ []) many = absurd (omega (arith, many))
four_at_once number (a ∷ b ∷ c ∷ []) many = absurd (omega (arith, many))
four_at_once number (a ∷ b ∷ c ∷ d ∷ rest) many =
    ap (digest_from (mixed number (joined a b c d))) (sym (take_all (length (a ∷ b ∷ c ∷ d ∷ rest) - 4) rest (omega arith)))

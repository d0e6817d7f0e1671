-- The number that digits spell is no less than what is read of it.
use Rattle.std.proofs.Common.{◌≡◌, ℕ, suc, ◌+◌, ◌*◌, ◌-◌, ◌<◌, ◌≤◌, false, List, [], ◌∷◌, length, get_or, drop, sym, ap, arith}
use Rattle.std.specs.Prelude.{nat_le}
use Rattle.std.proofs.Math.Seq.{drop-cons}
use Rattle.std.proofs.lemmas.Bool.{lt-leb}
use Rattle.gq_values.specs.Literals.{digits_from}

digits_grow : (n : ℕ) (ds : List ℕ) → n ≤ digits_from n ds
digits_grow n [] = omega arith
digits_grow n (d ∷ ds) = omega (arith, digits_grow (n * 10 + (d - 48)) ds)

-- once what is read is past the limit, so is the whole
pub past_limit : (value limit i : ℕ) (digits : List ℕ) → i < length digits → limit < value * 10 + (get_or digits i 0 - 48) → digits_from value (drop i digits) ≡ digits_from 0 digits → false ≡ nat_le (digits_from 0 digits) limit
past_limit value limit i digits inside past rest =
    let step = ap (digits_from value) (drop-cons digits i 0 inside) in
    let grown = digits_grow (value * 10 + (get_or digits i 0 - 48)) (drop (suc i) digits) in
    sym (lt-leb (digits_from 0 digits) limit (omega (arith, step, grown, past, rest)))

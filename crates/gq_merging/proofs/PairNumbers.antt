-- The numbers of pairs.
use Rattle.std.proofs.Common.{◌≡◌, ℕ, zero, suc, ◌+◌, ◌*◌, ◌/◌, ◌%◌, ◌<◌, arith, subst, sym, ap, ◌∙◌}
use Rattle.std.proofs.lemmas.Nat.{div-mul-add, mod-mul-add}
use Rattle.std.proofs.Math.Nat.{div-lt_iff_lt-mul}
use Rattle.gq_merging.specs.Helping.PairTables.{IsNumber}

pub pair_below : (count left right : ℕ) → left < count → right < count → left * count + right < count * count
pair_below count left right l r = (div-lt_iff_lt-mul (omega (arith, l))).0 (subst (λ k. k < count) (sym (div-mul-add left count right r)) l)

-- there are sets where there is a pair
pub some_set : (count number : ℕ) → number < count * count → 0 < count
some_set zero number l = absurd (omega (arith, l))
some_set (suc count) number l = omega arith

pub left_below : (count number : ℕ) → number < count * count → number / count < count
left_below count number l = (div-lt_iff_lt-mul (some_set count number l)).1 l

pub right_below : (count number : ℕ) → number < count * count → number % count < count
right_below count number l = let c = some_set count number l in omega (arith, c)

-- the sets of a pair
pub left_of : (count left right n : ℕ) → right < count → n ≡ left * count + right → n / count ≡ left
left_of count left right n r e = ap (λ k. k / count) e ∙ div-mul-add left count right r

pub right_of : (count left right n : ℕ) → right < count → n ≡ left * count + right → n % count ≡ right
right_of count left right n r e = ap (λ k. k % count) e ∙ mod-mul-add left count right r

pub is_number : (count size left right first number : ℕ) → first ≡ left * count → number ≡ first + right → number < size → IsNumber count size left right number
is_number count size left right first number e f l = record { is = f ∙ ap (λ k. k + right) e; within = l }

pub both_of : (count n : ℕ) → n < count * count → n ≡ n / count * count + n % count
both_of count n l = let c = some_set count n l in omega (arith, c)

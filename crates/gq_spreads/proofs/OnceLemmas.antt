-- Lists in which no number stands twice.
use Rattle.std.proofs.Common.{◌≡◌, ⊎_elim, ℕ, zero, suc, ◌<◌, Bool, true, false, List, [], ◌∷◌, ◌++◌, length, get_or, refl, sym, ◌∙◌, subst, arith, Contains}
use Rattle.std.specs.Prelude.{filter, if◌then◌else◌}
use Rattle.std.proofs.lemmas.List.Elements.{Contains-get_or, Contains-append_cases}
use Rattle.gq_graph.specs.Reach.{NoneTwice}
use Rattle.gq_types.proofs.Gathered.{first, later, from_filter}

pub once_tail : (n : ℕ) (ns : List ℕ) → NoneTwice (n ∷ ns) → NoneTwice ns
once_tail n ns once i j less inside = once (suc i) (suc j) (omega (arith, less)) (omega (arith, inside))

default_zero : (ns : List ℕ) (i n : ℕ) → i < length ns → get_or ns i 0 ≡ get_or ns i n
default_zero [] i n inside = absurd (omega (arith, inside))
default_zero (m ∷ ms) zero n inside = refl
default_zero (m ∷ ms) (suc i) n inside = default_zero ms i n (omega (arith, inside))

pub once_head : (n : ℕ) (ns : List ℕ) → NoneTwice (n ∷ ns) → Contains ns n → ⊥
once_head n ns once (i, inside, is) = once 0 (suc i) (omega arith) (omega (arith, inside)) (sym (default_zero ns i n inside ∙ is))

pub once_cons : (n : ℕ) (ns : List ℕ) → (Contains ns n → ⊥) → NoneTwice ns → NoneTwice (n ∷ ns)
once_cons n ns new once i zero less inside = absurd (omega (arith, less))
once_cons n ns new once zero (suc j) less inside = λ same. new (subst (λ m. Contains ns m) (sym same) (Contains-get_or ns j 0 (omega (arith, inside))))
once_cons n ns new once (suc i) (suc j) less inside = once i j (omega (arith, less)) (omega (arith, inside))

-- of two lists that share no number
pub once_append : (ms ns : List ℕ) → NoneTwice ms → NoneTwice ns → ((n : ℕ) → Contains ms n → Contains ns n → ⊥) → NoneTwice (ms ++ ns)
once_append [] ns one other apart = other
once_append (m ∷ ms) ns one other apart =
    once_cons m (ms ++ ns)
    (λ there. ⊎_elim (λ a. once_head m ms one a) (λ b. apart m (first m m ms refl) b) (Contains-append_cases ms ns m there))
    (once_append ms ns (once_tail m ms one) other (λ n a b. apart n (later m n ms a) b))

-- where some are left out
pub once_filter : (test : ℕ → Bool) (ns : List ℕ) → NoneTwice ns → NoneTwice (filter test ns)
once_filter test [] once = once
once_filter test (n ∷ ns) once = by_test (once_filter test ns (once_tail n ns once)) (test n)
  where
    by_test : NoneTwice (filter test ns) → (b : Bool) → NoneTwice (if b then n ∷ filter test ns else filter test ns)
    by_test rest true = once_cons n (filter test ns) (λ there. once_head n ns once (from_filter test ns n there).0) rest
    by_test rest false = rest

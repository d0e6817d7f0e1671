-- What tells that more was seen than was told.
use Rattle.std.proofs.Common.{◌≡◌, ◌↔◌, Bool, true, false, not, List, [], ◌∷◌, ◌++◌, length, nat_lt, IsTrue, refl, sym, ap, subst, ◌∙◌, arith, true≢false, append-nil, length-append}
use Rattle.std.proofs.lemmas.Bool.{lt-ltb, le-ltb}
use mathlib.Core.List.{IsPrefix}

-- behind a beginning there is nothing or more
longer : {A : Type 0} (told behind : List A) → (told ++ behind ≡ told → ⊥) → nat_lt (length told) (length (told ++ behind)) ≡ true
longer told [] other = absurd (other (append-nil told))
longer told (x ∷ behind) other = lt-ltb _ _ (omega (arith, length-append told (x ∷ behind)))

-- what begins with a list and is another one is longer
pub more_seen : {A : Type 0} (told seen : List A) (same : Bool) → IsPrefix told seen → IsTrue same ↔ (seen ≡ told) → not same ≡ nat_lt (length told) (length seen)
more_seen told seen true begins tells = sym (le-ltb _ _ (omega (arith, ap length (tells.0 refl))))
more_seen told seen false begins tells =
    subst (λ s. true ≡ nat_lt (length told) (length s)) begins.1
    (sym (longer told begins.0 (λ is. true≢false (sym (tells.1 (sym begins.1 ∙ is))))))

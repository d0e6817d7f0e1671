-- A list with repeats left out, as a set of visited fragments leaves them out (section 6.3.2).
use Rattle.std.specs.Prelude.{◌≡◌, ◌⊎◌, List, [], ◌∷◌}

-- the element is in the list
abbrev pub IsIn : {A : Type 0} → A → List A → Type 0
IsIn x [] = ⊥
IsIn x (y ∷ ys) = (x ≡ y) ⊎ IsIn x ys

-- every element of the first list is in the second
pub record IsWithin {A : Type 0} (xs ys : List A) : Type 0 where
  pub each : (x : A) → IsIn x xs → IsIn x ys

-- The second list is the first with some elements left out, each of which is in seen or stands before it.
pub data Thin {A : Type 0} : (seen : List A) → List A → List A → Type 0 where
  ended : {seen : List A} → Thin seen [] []
  kept : {seen xs ys : List A} {x : A} → Thin (x ∷ seen) xs ys → Thin seen (x ∷ xs) (x ∷ ys)
  left_out : {seen xs ys : List A} {x : A} → IsIn x seen → Thin seen xs ys → Thin seen (x ∷ xs) ys

-- What is found at the first place of a name.
use Rattle.std.proofs.Common.{◌≡◌, ℕ, ◌<◌, Bool, true, false, ltb, ◌||◌, List, [], ◌∷◌, length, get_or, map, Some, None, refl, sym, ap, ◌∙◌, subst}
use Rattle.std.specs.Prelude.{find, position, slice_get, is_some, if◌then◌else◌}
use Rattle.std.specs.List.{list_any, position_or_len}
use Rattle.std.specs.Option.{option_map}
use Rattle.std.specs.Str.{bytes_eq}
use Rattle.std.proofs.lemmas.Bool.Decides.{Decides-ltb}
use Rattle.std.proofs.lemmas.List.{length-map}
use Rattle.std.proofs.lemmas.List.Folds.{find_at}
use Rattle.std.proofs.lemmas.Option.{cond_some, slice_get-map, slice_get-get_or}
use Rattle.gq_names.proofs.PlaceLemmas.{is_some_position}

position_or_len-map : {X Y : Type 0} (f : X → Y) (p : Y → Bool) (xs : List X) → position_or_len p (map f xs) ≡ position_or_len (λ x. p (f x)) xs
position_or_len-map f p [] = refl
position_or_len-map f p (x ∷ xs) = let e = position_or_len-map f p xs in rw e refl

any-map : {X Y : Type 0} (f : X → Y) (p : Y → Bool) (xs : List X) → list_any p (map f xs) ≡ list_any (λ x. p (f x)) xs
any-map f p [] = refl
any-map f p (x ∷ xs) = ap (λ b. p (f x) || b) (any-map f p xs)

pub position-map : {X Y : Type 0} (f : X → Y) (p : Y → Bool) (xs : List X) → position p (map f xs) ≡ position (λ x. p (f x)) xs
position-map f p xs = rw (position_or_len-map f p xs, length-map xs f) refl

found_none : {X : Type 0} (p : X → Bool) (xs : List X) → list_any p xs ≡ false → find p xs ≡ None
found_none p [] h = refl
found_none p (x ∷ xs) h = by_test (p x) h (λ d. found_none p xs d)
  where
    by_test : (b : Bool) → (b || list_any p xs) ≡ false → (list_any p xs ≡ false → find p xs ≡ None) → (if b then Some x else find p xs) ≡ None
    by_test true e rest = absurd (cc)
    by_test false e rest = rest e

module _ {X Y : Type 0} (v : Y → X) (text : X → List ℕ) (q : List ℕ) (ys : List Y) where
  pub found_place : (k : ℕ) (d : Y) → position (bytes_eq q) (map text (map v ys)) ≡ Some k → find (λ x. bytes_eq q (text x)) (map v ys) ≡ Some (v (get_or ys k d))
  found_place k d h =
      let there = cond_some (ltb (position_or_len (bytes_eq q) (map text (map v ys))) (length (map text (map v ys)))) (position_or_len (bytes_eq q) (map text (map v ys))) k h in
      let inside : k < length (map text (map v ys)) = subst (λ j. j < length (map text (map v ys))) there.1 ((Decides-ltb (position_or_len (bytes_eq q) (map text (map v ys))) (length (map text (map v ys)))).0 there.0) in
      let within = simp length-map at inside in
      let place : position_or_len (λ x. bytes_eq q (text x)) (map v ys) ≡ k = sym (position_or_len-map text (bytes_eq q) (map v ys)) ∙ there.1 in
      find_at (λ x. bytes_eq q (text x)) (map v ys) ∙ ap (slice_get (map v ys)) place ∙ slice_get-map v ys k ∙ ap (option_map v) (slice_get-get_or ys k d within)

  pub found_nowhere : position (bytes_eq q) (map text (map v ys)) ≡ None → find (λ x. bytes_eq q (text x)) (map v ys) ≡ None
  found_nowhere h =
      found_none (λ x. bytes_eq q (text x)) (map v ys) (sym (any-map text (bytes_eq q) (map v ys)) ∙ sym (is_some_position (bytes_eq q) (map text (map v ys))) ∙ ap is_some h)

-- One job more is handed on.
use Rattle.std.proofs.Common.{◌≡◌, ℕ, zero, suc, ◌<◌, ◌≤◌, List, [], ◌∷◌, ◌++◌, length, map, take, drop, ap, sym, refl, ◌∙◌, arith}
use Rattle.std.proofs.Math.Seq.{take-nil}
use Rattle.std.proofs.lemmas.List.{length-append, append-nil, append_assoc}
use Rattle.gq_events.specs.Jobs.{JobOf}
use Rattle.gq_events.specs.Rules.{out_max}
use Rattle.gq_events.specs.Machine.{room_for}

one_more : (out : List ℕ) (number : ℕ) → length out < out_max → room_for out ≡ suc (room_for (out ++ number ∷ []))
one_more out number h = omega (arith, length-append out (number ∷ []))

full : (out : List ℕ) → out_max ≤ length out → room_for out ≡ zero
full out h = omega arith

-- what is done, then what is left, is the whole
module _ {X Y : Type 0} (f : X → Y) where
  pub gone_on : (done : List Y) (out : List ℕ) (number : ℕ) (x : X) (xs : List X) → length out < out_max
      → (done ++ f x ∷ []) ++ map f (take (room_for (out ++ number ∷ [])) xs) ≡ done ++ map f (take (room_for out) (x ∷ xs))
  gone_on done out number x xs h = append_assoc done (f x ∷ []) _ ∙ ap (λ n. done ++ map f (take n (x ∷ xs))) (sym (one_more out number h))

  pub gone_full : (done : List Y) (out : List ℕ) (xs : List X) → out_max ≤ length out → done ++ map f (take (room_for out) xs) ≡ done
  gone_full done out xs h = ap (λ n. done ++ map f (take n xs)) (full out h) ∙ none_taken xs
    where
      none_taken : (xs : List X) → done ++ map f (take zero xs) ≡ done
      none_taken [] = append-nil done
      none_taken (x ∷ xs) = append-nil done

  pub gone_empty : (done : List Y) (n : ℕ) → done ++ map f (take n []) ≡ done
  gone_empty done n = ap (λ ys. done ++ map f ys) (take-nil n) ∙ append-nil done

pub left_on : {X : Type 0} (out : List ℕ) (number : ℕ) (x : X) (xs : List X) → length out < out_max → drop (room_for (out ++ number ∷ [])) xs ≡ drop (room_for out) (x ∷ xs)
left_on out number x xs h = ap (λ n. drop n (x ∷ xs)) (sym (one_more out number h))

pub left_full : {X : Type 0} (out : List ℕ) (xs : List X) → out_max ≤ length out → drop (room_for out) xs ≡ xs
left_full out xs h = ap (λ n. drop n xs) (full out h) ∙ whole xs
  where
    whole : {X : Type 0} (xs : List X) → drop zero xs ≡ xs
    whole [] = refl
    whole (x ∷ xs) = refl

-- the same, at a loop's step
pub told_on : {Y : Type 0} (f : JobOf → Y) (done done' whole : List Y) (out out' : List ℕ) (x : JobOf) (waiting waiting' : List JobOf) → length out < out_max
    → out' ≡ out ++ x.number ∷ [] → waiting ≡ x ∷ waiting' → done' ≡ done ++ f x ∷ [] → done ++ map f (take (room_for out) waiting) ≡ whole → done' ++ map f (take (room_for out') waiting') ≡ whole
told_on f done done' whole out out' x waiting waiting' h e g k kept =
    rw (k, e) (gone_on f done out x.number x waiting' h ∙ (ap (λ w. done ++ map f (take (room_for out) w)) (sym g) ∙ kept))

pub rest_on : (whole : List JobOf) (out out' : List ℕ) (x : JobOf) (waiting waiting' : List JobOf) → length out < out_max → out' ≡ out ++ x.number ∷ [] → waiting ≡ x ∷ waiting'
    → drop (room_for out) waiting ≡ whole → drop (room_for out') waiting' ≡ whole
rest_on whole out out' x waiting waiting' h e g kept = rw e (left_on out x.number x waiting' h ∙ (ap (λ w. drop (room_for out) w) (sym g) ∙ kept))

-- two parts written one after the other
pub told_both : {X : Type 0} (old mid new a b a' b' : List X) → mid ≡ old ++ a → new ≡ mid ++ b → a ≡ a' → b ≡ b' → new ≡ old ++ (a' ++ b')
told_both old mid new a b a' b' e f g h = f ∙ (ap (λ l. l ++ b) e ∙ (append_assoc old a b ∙ (ap (λ l. old ++ (l ++ b)) g ∙ ap (λ l. old ++ (a' ++ l)) h)))

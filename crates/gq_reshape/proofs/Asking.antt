-- The document that is asked of.
use Rattle.std.proofs.Common.{◌≡◌, ◌<◌, ℕ, zero, suc, Bool, true, false, cond, List, [], ◌∷◌, Some, None, slice_get, get_or, length, position, nat_lt, refl, sym, ap, ◌∙◌, arith}
use Rattle.std.specs.List.{position_or_len}
use Rattle.std.proofs.lemmas.Bool.Decides.{nat_tests}
use Rattle.gq_project.specs.declared.document.Doc.{Doc}
use Rattle.gq_project.specs.Documents.{has_key}
use Rattle.gq_reshape.specs.Asks.{IsAskedOf}
use Rattle.gq_reshape.proofs.Quiet.{slice_is}

pub at_place : {X : Type 0} (xs : List X) (n : ℕ) → n < length xs → (x : X) × (slice_get xs n ≡ Some x)
at_place [] n h = absurd (omega (arith, h))
at_place (x ∷ xs) zero h = (x, refl)
at_place (x ∷ xs) (suc n) h = at_place xs n (omega (arith, h))

pub inside : (p : Doc → Bool) (xs : List Doc) (n : ℕ) → position p xs ≡ Some n → n < length xs
inside p xs n e = by (nat_lt (position_or_len p xs) (length xs)) refl e
  where
    by : (b : Bool) → nat_lt (position_or_len p xs) (length xs) ≡ b → cond b (Some (position_or_len p xs)) None ≡ Some n → n < length xs
    by true t f = let same : position_or_len p xs ≡ n = cc in grind (arith, nat_tests, t, same)
    by false t f = absurd (cc)

pub stands_at : {X : Type 0} (xs : List X) (n : ℕ) (x : X) → n < length xs → x ≡ get_or xs n x → slice_get xs n ≡ Some x
stands_at xs n x less is = let w = at_place xs n less in w.1 ∙ ap Some (sym (is ∙ slice_is xs n w.0 x w.1))

pub asked_document : (documents : List Doc) (key : List ℕ) (file : ℕ) (document : Doc) → position (has_key key) documents ≡ Some file → document ≡ get_or documents file document → IsAskedOf documents key file document
asked_document documents key file document at is = record { is_at = at; stands = stands_at documents file document (inside (has_key key) documents file at) is }

-- What is noted of documents, where one is replaced, put in or taken out.
use Rattle.std.proofs.Common.{◌≡◌, ℕ, zero, suc, ◌<◌, ◌≤◌, List, [], ◌∷◌, Option, Some, None, IfSome, set, get_or, slice_get, length, sym, ap, arith}
use Rattle.std.specs.List.{insert, remove}
use Rattle.std.proofs.lemmas.Option.{none-some}
use Rattle.gq_tree.specs.Readings.{ParsedOf}
use Rattle.gq_kept.specs.Helping.Noted.{IsNoMore, AreNoted}

-- a document of which nothing is noted
abbrev nothing : {T : Type 0} → Option T
nothing = None

no_note : {T A : Type 0} (t : T) → Some (nothing {T = T}) ≡ Some (Some t) → A
no_note t e = absurd (cc)

module _ {T : Type 0} (IsRight : ParsedOf → T → Type 0) where
  pub none_noted : (rs : List ParsedOf) → AreNoted IsRight rs []
  none_noted rs n r t there noted = absurd (none-some (Some t) noted)

  -- what is noted less is right
  pub noted_less : (rs : List ParsedOf) (all notes : List (Option T)) → IsNoMore all notes → AreNoted IsRight rs all → AreNoted IsRight rs notes
  noted_less rs all notes less are n r t there noted = are n r t there (less n t noted)

  noted_set : (at : ℕ) (rs : List ParsedOf) (notes : List (Option T)) (s : ParsedOf) → AreNoted IsRight rs notes → AreNoted IsRight (set rs at s) (set notes at None)
  noted_set at [] notes s are n r t there noted = absurd (none-some r there)
  noted_set at (x ∷ rs) [] s are n r t there noted = absurd (none-some (Some t) noted)
  noted_set zero (x ∷ rs) (o ∷ notes) s are zero r t there noted = no_note t noted
  noted_set zero (x ∷ rs) (o ∷ notes) s are (suc n) r t there noted = are (suc n) r t there noted
  noted_set (suc at) (x ∷ rs) (o ∷ notes) s are zero r t there noted = are zero r t there noted
  noted_set (suc at) (x ∷ rs) (o ∷ notes) s are (suc n) r t there noted = noted_set at rs notes s (λ m. are (suc m)) n r t there noted

  noted_insert : (at : ℕ) (rs : List ParsedOf) (notes : List (Option T)) (s : ParsedOf) → at ≤ length rs → AreNoted IsRight rs notes → AreNoted IsRight (insert rs at s) (insert notes at None)
  noted_insert zero rs notes s within are zero r t there noted = no_note t noted
  noted_insert zero rs notes s within are (suc n) r t there noted = are n r t there noted
  noted_insert (suc at) [] notes s within are n r t there noted = absurd (omega (arith, within))
  noted_insert (suc at) (x ∷ rs) [] s within are zero r t there noted = no_note t noted
  noted_insert (suc at) (x ∷ rs) [] s within are (suc n) r t there noted = absurd (none-some (Some t) noted)
  noted_insert (suc at) (x ∷ rs) (o ∷ notes) s within are zero r t there noted = are zero r t there noted
  noted_insert (suc at) (x ∷ rs) (o ∷ notes) s within are (suc n) r t there noted = noted_insert at rs notes s (omega (arith, within)) (λ m. are (suc m)) n r t there noted

  noted_remove : (at : ℕ) (rs : List ParsedOf) (notes : List (Option T)) → AreNoted IsRight rs notes → AreNoted IsRight (remove rs at) (remove notes at)
  noted_remove zero [] notes are n r t there noted = absurd (none-some r there)
  noted_remove (suc at) [] notes are n r t there noted = absurd (none-some r there)
  noted_remove zero (x ∷ rs) [] are n r t there noted = absurd (none-some (Some t) noted)
  noted_remove (suc at) (x ∷ rs) [] are n r t there noted = absurd (none-some (Some t) noted)
  noted_remove zero (x ∷ rs) (o ∷ notes) are n r t there noted = are (suc n) r t there noted
  noted_remove (suc at) (x ∷ rs) (o ∷ notes) are zero r t there noted = are zero r t there noted
  noted_remove (suc at) (x ∷ rs) (o ∷ notes) are (suc n) r t there noted = noted_remove at rs notes (λ m. are (suc m)) n r t there noted

  -- so of what is left then
  module _ (notes left : List (Option T)) (rs : List ParsedOf) (at : ℕ) (are : AreNoted IsRight rs notes) where
    pub noted_over : (s : ParsedOf) → IsNoMore (set notes at None) left → AreNoted IsRight (set rs at s) left
    noted_over s less = noted_less (set rs at s) (set notes at None) left less (noted_set at rs notes s are)

    pub noted_among : (s : ParsedOf) → at ≤ length rs → IsNoMore (insert notes at None) left → AreNoted IsRight (insert rs at s) left
    noted_among s within less = noted_less (insert rs at s) (insert notes at None) left less (noted_insert at rs notes s within are)

    pub noted_without : IsNoMore (remove notes at) left → AreNoted IsRight (remove rs at) left
    noted_without less = noted_less (remove rs at) (remove notes at) left less (noted_remove at rs notes are)

  -- what is noted of a document
  get_some : {X : Type 0} (xs : List X) (n : ℕ) (x : X) → n < length xs → x ≡ get_or xs n x → slice_get xs n ≡ Some x
  get_some [] n x h e = absurd (omega (arith, h))
  get_some {X} (y ∷ xs) zero x h e = ap (λ (z : X). Some z) (sym e)
  get_some (y ∷ xs) (suc n) x h e = get_some xs n x (omega (arith, h)) e

  pub noted_at : (rs : List ParsedOf) (notes : List (Option T)) (n : ℕ) (r : ParsedOf) (one : Option T) → slice_get rs n ≡ Some r → n < length notes → one ≡ get_or notes n one → AreNoted IsRight rs notes → IfSome one (IsRight r)
  noted_at rs notes n r None there inside noted are = tt
  noted_at rs notes n r (Some t) there inside noted are = are n r t there (get_some notes n (Some t) inside noted)

-- Which bytes are two halves joined.
use Rattle.std.specs.Prelude.{◌≡◌, ℕ, ◌↔◌, true, false, Bool, List, ◌++◌, length, take, drop, nat_eq, IsTrue}
use Rattle.std.proofs.Common.{sym, ap, ◌∙◌}
use Rattle.std.proofs.lemmas.Bool.{false≢true}
use lib.Pointwise.{pointwise}
use Rattle.std.proofs.Math.Seq.{take-append_seam, drop-append_seam}
use Rattle.std.proofs.lemmas.List.{take-append-drop}
use Rattle.std.proofs.lemmas.Bool.Decides.{Decides-eqb}
use Rattle.std.proofs.lemmas.Slice.Eq.{slice_eq-Decides}

module _ (bs xs ys all : List ℕ) (whole : xs ++ ys ≡ all) where
  front_of : bs ≡ all → take (length xs) bs ≡ xs
  front_of e = ap (λ (zs : List ℕ). take (length xs) zs) (e ∙ sym whole) ∙ take-append_seam xs ys

  back_of : bs ≡ all → drop (length xs) bs ≡ ys
  back_of e = ap (λ (zs : List ℕ). drop (length xs) zs) (e ∙ sym whole) ∙ drop-append_seam xs ys

  joined : take (length xs) bs ≡ xs → drop (length xs) bs ≡ ys → bs ≡ all
  joined front back = sym (take-append-drop (length xs) bs) ∙ ap (λ (zs : List ℕ). zs ++ drop (length xs) bs) front ∙ ap (λ (zs : List ℕ). xs ++ zs) back ∙ whole

  -- where the front is the first half, all depends on the rest
  pub rest_tells : (first rest : List ℕ) (r s : Bool) → first ≡ take (length xs) bs → rest ≡ drop (length xs) bs → r ≡ pointwise nat_eq first xs → r ≡ true
      → s ≡ pointwise nat_eq rest ys → IsTrue s ↔ (bs ≡ all)
  rest_tells first rest r s is_first is_rest front same back =
      let one = slice_eq-Decides Decides-eqb first xs r front in let other = slice_eq-Decides Decides-eqb rest ys s back in
      ((λ t. joined (sym is_first ∙ one.0 same) (sym is_rest ∙ other.0 t)), (λ e. other.1 (is_rest ∙ back_of e)))

  -- where the front is not the first half, the bytes are others
  pub front_tells : (first : List ℕ) (r : Bool) → first ≡ take (length xs) bs → r ≡ pointwise nat_eq first xs → r ≡ false → IsTrue r ↔ (bs ≡ all)
  front_tells first r is_first front other =
      let one = slice_eq-Decides Decides-eqb first xs r front in
      ((λ t. absurd (false≢true (sym other ∙ t))), (λ e. one.1 (is_first ∙ front_of e)))

-- Each place below another stands at one of its steps, and each step leads to a place.
use Rattle.std.proofs.Common.{◌≡◌, inl, inr, ℕ, zero, suc, ◌+◌, Bool, true, false, cond, List, [], ◌∷◌, ◌++◌, map, Option, Some, None, refl, sym, ap, ◌∙◌, subst, ⊎_elim, arith, add-zero, zero-add}
use Rattle.std.specs.Prelude.{if◌then◌else◌}
use Rattle.std.specs.List.{list_any}
use Rattle.std.specs.Str.{bytes_eq}
use Rattle.gq_tree.specs.Forest.{none, more}
use Rattle.gq_meaning.specs.Values.{Text}
use Rattle.gq_meaning.specs.Results as result
use Rattle.gq_meaning.specs.Results.{Result, Answer, Answers, Step, key, index}
use Rattle.gq_meaning.specs.Expand.{Asked, Definition}
use Rattle.gq_meaning.specs.Thin.{IsIn}
use Rattle.gq_meaning.specs.Response.{FieldType, Given, Place, fails, item_at, of_key, keys_after, place_of, place_in, below_result, below, child, indexes, steps_below, steps_of, steps}
use Rattle.gq_meaning.proofs.TextLemmas.{same_text, text_itself}
use Rattle.gq_meaning.proofs.ThinLemmas.{in_either}
use Rattle.gq_meaning.proofs.NameLemmas.{in_from_test}

-- a key that has fields is one of the keys
key_in : (g : Given) (t : Text) (i : ℕ) (k : Text) (xs : List Asked) (seen : List Text) (q : Place) → (IsIn k seen → ⊥) → place_of g t i (of_key k xs) ≡ Some q → IsIn k (keys_after seen xs)
key_in g t i k [] seen q n e = cc
key_in g t i k (x ∷ xs) seen q n e =
    by_test (list_any (bytes_eq x.key) seen) refl (bytes_eq k x.key) refl e (key_in g t i k xs seen q n) (key_in g t i k xs (seen ++ x.key ∷ []) q)
  where
    by_test : (b : Bool) → list_any (bytes_eq x.key) seen ≡ b → (c : Bool) → bytes_eq k x.key ≡ c → place_of g t i (cond c (x ∷ of_key k xs) (of_key k xs)) ≡ Some q →
        (place_of g t i (of_key k xs) ≡ Some q → IsIn k (keys_after seen xs)) → ((IsIn k (seen ++ x.key ∷ []) → ⊥) → place_of g t i (of_key k xs) ≡ Some q → IsIn k (keys_after (seen ++ x.key ∷ []) xs)) →
        IsIn k (if b then keys_after seen xs else x.key ∷ keys_after (seen ++ x.key ∷ []) xs)
    by_test true s true c h r1 r2 = absurd (n (subst (λ z. IsIn z seen) (sym (same_text k x.key c)) (in_from_test seen x.key s)))
    by_test true s false c h r1 r2 = r1 h
    by_test false s true c h r1 r2 = inl (same_text k x.key c)
    by_test false s false c h r1 r2 =
        inr (r2 (λ m. ⊎_elim (λ a. n a) (λ b. ⊎_elim (λ d. let t1 : bytes_eq k x.key ≡ true = subst (λ z. bytes_eq k z ≡ true) d (text_itself k) in let bad : true ≡ false = sym t1 ∙ c in cc) (λ z. absurd z) b) (in_either k seen (x.key ∷ []) m)) h)

in_keys : (k : Text) (ks : List Text) → IsIn k ks → IsIn (key k) (map key ks)
in_keys k [] m = absurd m
in_keys k (x ∷ ks) (inl e) = inl (ap key e)
in_keys k (x ∷ ks) (inr m) = inr (in_keys k ks m)

index_in : (items : Answers) (i j : ℕ) (r : Answer) → item_at items i ≡ Some r → IsIn (index (j + i)) (indexes j items)
index_in none i j r e = cc
index_in (more l b rest) zero j r e = inl (ap index (add-zero j))
index_in (more l b rest) (suc i) j r e = inr (let n : j + suc i ≡ suc j + i = omega arith in subst (λ z. IsIn (index z) (indexes (suc j) rest)) (sym n) (index_in rest i (suc j) r e))

in_some : (t : Option FieldType) (fields : List Asked) (r : Option Answer) (q : Place) → place_in t fields r ≡ Some q → (a : Answer) × (r ≡ Some a)
in_some t fields None q e = cc
in_some t fields (Some a) q e = (a, refl)

module _ (g : Given) (ds : List Definition) where
  result_steps : (t : Option FieldType) (fields : List Asked) (r : Result) (items : Answers) (s : Step) (q : Place) → below_result g ds t fields r items s ≡ Some q → IsIn s (steps_below g ds fields r items)
  result_steps t fields result.nothing items s q e = cc
  result_steps t fields result.failed items s q e = cc
  result_steps t fields (result.leaf v) items s q e = cc
  result_steps t fields (result.object o n) items (key k) q e = in_keys k _ (key_in g o n k _ [] q (λ z. absurd z) e)
  result_steps t fields (result.object o n) items (index i) q e = cc
  result_steps t fields result.list items (key k) q e = cc
  result_steps t fields result.list items (index i) q e = let a = in_some t fields (item_at items i) q e in subst (λ z. IsIn (index z) (indexes 0 items)) (zero-add i) (index_in items i 0 a.0 a.1)

  pub step_in : (p : Place) (s : Step) (q : Place) → child g ds p s ≡ Some q → IsIn s (steps g ds p)
  step_in p s q e = by_fails (fails g p) p.result e
    where
      by_result : (r : Option Answer) → below g ds p.type_ref p.fields r s ≡ Some q → IsIn s (steps_of g ds p.fields r)
      by_result None e = cc
      by_result (Some r) e = result_steps p.type_ref p.fields r.label r.below s q e

      by_fails : (b : Bool) (r : Option Answer) → (if b then None else below g ds p.type_ref p.fields r s) ≡ Some q → IsIn s (if b then [] else steps_of g ds p.fields r)
      by_fails true r e = cc
      by_fails false r e = by_result r e

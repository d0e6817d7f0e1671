-- A response does not depend on repeats among the fields.
use Rattle.std.proofs.Common.{◌≡◌, ℕ, Bool, true, false, List, [], map, Option, Some, None, refl, ap, ◌∙◌, subst}
use Rattle.std.specs.Prelude.{if◌then◌else◌}
use Rattle.gq_meaning.specs.Values.{Text}
use Rattle.gq_meaning.specs.Results as result
use Rattle.gq_meaning.specs.Results.{Result, Answer, Answers, Step, key, index}
use Rattle.gq_meaning.specs.Expand.{Asked, Definition}
use Rattle.gq_meaning.specs.Thin.{Thin, ended, kept, left_out}
use Rattle.gq_meaning.specs.Response.{FieldType, Given, setting, Place, fails, item_at, place_of, place_in, below_result, below, child, steps_below, steps_of, steps, leaf_in}
use Rattle.gq_meaning.proofs.Repeats.{thin_expand, thin_of_key, thin_keys_all}
use Rattle.gq_meaning.proofs.Simulation.{IsSimulation}

-- The same place, with some repeats left out of its fields.
pub record HasFewer (p q : Place) : Type 0 where
  pub type_ref : p.type_ref ≡ q.type_ref
  pub result : p.result ≡ q.result
  pub fields : Thin [] p.fields q.fields
  pub call : p.call ≡ q.call

-- the place with other fields
abbrev pub with_fields : Place → List Asked → Place
with_fields p ys = record { type_ref = p.type_ref; result = p.result; fields = ys; call = p.call }

pub is_with : (p q : Place) → HasFewer p q → with_fields p q.fields ≡ q
is_with p q h =
    ap (λ z. record { type_ref = z; result = p.result; fields = q.fields; call = p.call }) h.type_ref
    ∙ ap (λ z. record { type_ref = q.type_ref; result = z; fields = q.fields; call = p.call }) h.result
    ∙ ap (λ z. record { type_ref = q.type_ref; result = q.result; fields = q.fields; call = z }) h.call

module _ (g : Given) (ds : List Definition) where
  abbrev Both : Option Place → Option Place → Type 0
  Both x y = ((p : Place) → x ≡ Some p → (q : Place) × (y ≡ Some q) × HasFewer p q) × ((q : Place) → y ≡ Some q → (p : Place) × (x ≡ Some p) × HasFewer p q)

  both_none : Both None None
  both_none = ((λ p e. cc), (λ q e. cc))

  both_some : (a b : Place) → HasFewer a b → Both (Some a) (Some b)
  both_some a b h = ((λ p e. let s : a ≡ p = cc in (b, refl, subst (λ z. HasFewer z b) s h)), (λ q e. let s : b ≡ q = cc in (a, refl, subst (λ z. HasFewer a z) s h)))

  both_if : (b : Bool) (x y : Option Place) → Both x y → Both (if b then None else x) (if b then None else y)
  both_if true x y h = both_none
  both_if false x y h = h

  pub places_both : (t : Text) (i : ℕ) {xs ys : List Asked} → Thin [] xs ys → Both (place_of g t i xs) (place_of g t i ys)
  places_both t i ended = both_none
  places_both t i (kept {xs} {ys} {x} h) = both_some _ _ (record { type_ref = refl; result = refl; fields = kept h; call = refl })
  places_both t i (left_out m h) = absurd m

  items_both : (t : Option FieldType) (xs ys : List Asked) → Thin [] xs ys → (r : Option Answer) → Both (place_in t xs r) (place_in t ys r)
  items_both t xs ys h None = both_none
  items_both t xs ys h (Some r) = both_some _ _ (record { type_ref = refl; result = refl; fields = h; call = refl })

  result_both : (t : Option FieldType) (xs ys : List Asked) → Thin [] xs ys → (r : Result) (items : Answers) (s : Step) → Both (below_result g ds t xs r items s) (below_result g ds t ys r items s)
  result_both t xs ys h result.nothing items s = both_none
  result_both t xs ys h result.failed items s = both_none
  result_both t xs ys h (result.leaf v) items s = both_none
  result_both t xs ys h (result.object o n) items (key k) = places_both o n (thin_of_key k _ _ (thin_expand (setting g o) ds xs ys h))
  result_both t xs ys h (result.object o n) items (index i) = both_none
  result_both t xs ys h result.list items (key k) = both_none
  result_both t xs ys h result.list items (index i) = items_both t xs ys h (item_at items i)

  below_both : (t : Option FieldType) (xs ys : List Asked) → Thin [] xs ys → (r : Option Answer) (s : Step) → Both (below g ds t xs r s) (below g ds t ys r s)
  below_both t xs ys h None s = both_none
  below_both t xs ys h (Some r) s = result_both t xs ys h r.label r.below s

  -- the same place with fewer fields
  child_both : (p : Place) (ys : List Asked) → Thin [] p.fields ys → (s : Step) → Both (child g ds p s) (child g ds (with_fields p ys) s)
  child_both p ys h s = both_if (fails g p) _ _ (below_both p.type_ref p.fields ys h p.result s)

  result_steps : (xs ys : List Asked) → Thin [] xs ys → (r : Result) (items : Answers) → steps_below g ds xs r items ≡ steps_below g ds ys r items
  result_steps xs ys h result.nothing items = refl
  result_steps xs ys h result.failed items = refl
  result_steps xs ys h (result.leaf v) items = refl
  result_steps xs ys h (result.object o n) items = ap (map key) (thin_keys_all _ _ (thin_expand (setting g o) ds xs ys h))
  result_steps xs ys h result.list items = refl

  some_steps : (xs ys : List Asked) → Thin [] xs ys → (r : Option Answer) → steps_of g ds xs r ≡ steps_of g ds ys r
  some_steps xs ys h None = refl
  some_steps xs ys h (Some r) = result_steps xs ys h r.label r.below

  -- Repeats among the fields change nothing below.
  pub repeats_sim : IsSimulation g ds g ds HasFewer
  repeats_sim = record {
    same_type = λ p q h. h.type_ref;
    same_result = λ p q h. h.result;
    same_call = λ p q h. h.call;
    same_leaf = λ p q h. ap (λ z. leaf_in g z p.result) h.type_ref ∙ ap (λ z. leaf_in g q.type_ref z) h.result;
    same_fails = λ p q h. ap (λ z. fails g z) (is_with p q h);
    same_steps = λ p q h. ap (λ z. if fails g p then [] else z) (some_steps p.fields q.fields h.fields p.result) ∙ ap (λ z. steps g ds z) (is_with p q h);
    follows = λ p q h s p' e. subst (λ z. (q' : Place) × (child g ds z s ≡ Some q') × HasFewer p' q') (is_with p q h) ((child_both p q.fields h.fields s).0 p' e);
    leads = λ p q h s q' e. (child_both p q.fields h.fields s).1 q' (ap (λ z. child g ds z s) (is_with p q h) ∙ e);
  }

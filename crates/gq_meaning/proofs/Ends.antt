-- Places below which nothing stands: what fails, null, and leaves.
use Rattle.std.proofs.Common.{◌≡◌, Bool, true, false, List, [], ◌∷◌, ◌++◌, Option, Some, None, refl, sym, ap, ◌∙◌, subst}
use Rattle.std.specs.Prelude.{if◌then◌else◌, is_some, not, ◌&&◌}
use Rattle.gq_tree.specs.Forest.{none}
use Rattle.gq_tree.specs.Plain.{named, list_of, non_null}
use Rattle.gq_meaning.specs.Values.{Leaf}
use Rattle.gq_meaning.specs.Results as result
use Rattle.gq_meaning.specs.Results.{Result, Answer, Answers, Step, Path}
use Rattle.gq_meaning.specs.Shown as shown
use Rattle.gq_meaning.specs.Expand.{Asked, Definition}
use Rattle.gq_meaning.specs.Response.{FieldType, Given, Place, fits, is_unfit, fails, below, child, steps_of, steps, has_nothing, leaf_in, written, IsNull, failed, nothing, by_child, AreTold, no_more, error_at}
use Rattle.gq_meaning.specs.Answered.{Answered}

same_if : {A : Type 0} (b : Bool) (x : A) → (if b then x else x) ≡ x
same_if true x = refl
same_if false x = refl

module _ (g : Given) (ds : List Definition) where
  -- a result that has no results below it
  abbrev pub HasNoneBelow : Option Answer → Type 0
  HasNoneBelow r = ((t : Option FieldType) (fields : List Asked) (s : Step) → below g ds t fields r s ≡ None) × ((fields : List Asked) → steps_of g ds fields r ≡ [])

  pub none_below_nothing : (items : Answers) → HasNoneBelow (Some (record { label = result.nothing; below = items }))
  none_below_nothing items = ((λ t fields s. refl), (λ fields. refl))

  pub none_below_leaf : (v : Leaf) (items : Answers) → HasNoneBelow (Some (record { label = result.leaf v; below = items }))
  none_below_leaf v items = ((λ t fields s. refl), (λ fields. refl))

  steps_none : (p : Place) → HasNoneBelow p.result → steps g ds p ≡ []
  steps_none p h = ap (λ z. if fails g p then [] else z) (h.1 p.fields) ∙ same_if (fails g p) []

  child_none : (p : Place) → HasNoneBelow p.result → (s : Step) → child g ds p s ≡ None
  child_none p h s = ap (λ z. if fails g p then None else z) (h.0 p.type_ref p.fields s) ∙ same_if (fails g p) None

  not_null : (p : Place) → fails g p ≡ false → has_nothing p.result ≡ false → HasNoneBelow p.result → IsNull g ds p → ⊥
  not_null p f n h (failed e) = let bad : true ≡ false = sym e ∙ f in cc
  not_null p f n h (nothing e) = let bad : true ≡ false = sym e ∙ n in cc
  not_null p f n h (by_child {q} s e k z) = let bad : None ≡ Some q = sym (child_none p h s) ∙ e in cc

  pub failed_answered : (path : Path) (p : Place) → fails g p ≡ true → Answered g ds path p (record { shown = shown.null; below = none }) (path ∷ [])
  failed_answered path p f = record {
    shows = (failed f, refl);
    inner = [];
    told = subst (λ z. AreTold g ds (error_at g) path p z []) (sym (ap (λ b. if b then [] else steps_of g ds p.fields p.result) f)) no_more;
    are = ap (λ b. (if b then path ∷ [] else []) ++ []) (sym f);
  }

  pub nothing_answered : (path : Path) (p : Place) → fails g p ≡ false → has_nothing p.result ≡ true → HasNoneBelow p.result → Answered g ds path p (record { shown = shown.null; below = none }) []
  nothing_answered path p f n h = record {
    shows = (nothing n, refl);
    inner = [];
    told = subst (λ z. AreTold g ds (error_at g) path p z []) (sym (steps_none p h)) no_more;
    are = ap (λ b. (if b then path ∷ [] else []) ++ []) (sym f);
  }

  pub leaf_answered : (path : Path) (p : Place) (v : Leaf) → fails g p ≡ false → has_nothing p.result ≡ false → HasNoneBelow p.result → leaf_in g p.type_ref p.result ≡ Some v → Answered g ds path p (record { shown = shown.leaf v; below = none }) []
  leaf_answered path p v f n h w = record {
    shows = ((λ z. not_null p f n h z), w, refl);
    inner = [];
    told = subst (λ z. AreTold g ds (error_at g) path p z []) (sym (steps_none p h)) no_more;
    are = ap (λ b. (if b then path ∷ [] else []) ++ []) (sym f);
  }

-- an error fits no type
and_false : (b : Bool) → (b && false) ≡ false
and_false true = refl
and_false false = refl

if_both : (b : Bool) → (if b then false else false) ≡ false
if_both true = refl
if_both false = refl

error_fits_none : (g : Given) (t : FieldType) → fits g t result.failed ≡ false
error_fits_none g (named name) = if_both (g.is_composite name.text)
error_fits_none g (list_of item) = refl
error_fits_none g (non_null inner) = error_fits_none g inner

pub error_is_unfit : (g : Given) (t : Option FieldType) (items : Answers) → is_unfit g t (Some (record { label = result.failed; below = items })) ≡ true
error_is_unfit g None items = refl
error_is_unfit g (Some t) items = ap not (error_fits_none g t)

-- a leaf that fits is written
leaf_fits_written : (g : Given) (t : FieldType) (v : Leaf) → fits g t (result.leaf v) ≡ true → is_some (written g t (result.leaf v)) ≡ true
leaf_fits_written g (named name) v e = by_kind (g.is_composite name.text) e
  where
    by_kind : (b : Bool) → (if b then false else is_some (g.leaf_at name.text v)) ≡ true → is_some (g.leaf_at name.text v) ≡ true
    by_kind true e = cc
    by_kind false e = e
leaf_fits_written g (list_of item) v e = cc
leaf_fits_written g (non_null inner) v e = leaf_fits_written g inner v e

pub leaf_is_written : (g : Given) (t : Option FieldType) (v : Leaf) (items : Answers) → is_unfit g t (Some (record { label = result.leaf v; below = items })) ≡ false → is_some (leaf_in g t (Some (record { label = result.leaf v; below = items }))) ≡ true
leaf_is_written g None v items e = cc
leaf_is_written g (Some t) v items e = leaf_fits_written g t v (by_not (fits g t (result.leaf v)) e)
  where
    by_not : (b : Bool) → not b ≡ false → b ≡ true
    by_not true e = refl
    by_not false e = cc

-- The types of objects that fit a place (section 6.4.3).
use Rattle.std.proofs.Common.{◌≡◌, Bool, true, false, Option, Some, None, refl, ap, ℕ}
use Rattle.std.specs.Prelude.{if◌then◌else◌, not}
use Rattle.gq_tree.specs.Plain.{named, list_of, non_null}
use Rattle.gq_meaning.specs.Values.{Text}
use Rattle.gq_meaning.specs.Results as result
use Rattle.gq_meaning.specs.Results.{Answers}
use Rattle.gq_tree.specs.Wrapping.{item_of}
use Rattle.gq_meaning.specs.Response.{FieldType, Given, fits, is_unfit, item_type}
use Rattle.gq_meaning.specs.Rewritten.{base_in}
use Rattle.gq_tree.specs.NamedTypes.{base_name}

-- an object that fits a type is possible for the name at its end
object_fits : (g : Given) (t : FieldType) (o : Text) (n : ℕ) → fits g t (result.object o n) ≡ true → g.applies (base_name t) o ≡ true
object_fits g (named name) o n e = by_kind (g.is_composite name.text) e
  where
    by_kind : (b : Bool) → (if b then g.applies name.text o else false) ≡ true → g.applies name.text o ≡ true
    by_kind true e = e
    by_kind false e = cc
object_fits g (list_of item) o n e = cc
object_fits g (non_null inner) o n e = object_fits g inner o n e

pub object_base : (g : Given) (t : Option FieldType) (o : Text) (n : ℕ) (items : Answers) → is_unfit g t (Some (record { label = result.object o n; below = items })) ≡ false → (b : Text) × (base_in t ≡ Some b) × (g.applies b o ≡ true)
object_base g None o n items e = cc
object_base g (Some t) o n items e = (base_name t, refl, object_fits g t o n (by_not (fits g t (result.object o n)) e))
  where
    by_not : (b : Bool) → not b ≡ false → b ≡ true
    by_not true e = refl
    by_not false e = cc

-- an item's type ends as the list's
item_base : (t : FieldType) (b : Text) → base_in (item_of t) ≡ Some b → base_name t ≡ b
item_base (named name) b e = cc
item_base (list_of item) b e = cc
item_base (non_null inner) b e = item_base inner b e

pub item_base_in : (t : Option FieldType) (b : Text) → base_in (item_type t) ≡ Some b → base_in t ≡ Some b
item_base_in None b e = cc
item_base_in (Some t) b e = ap Some (item_base t b e)

-- What was found of the fields of an object and of the items of a list is found of the places below.
use Rattle.std.proofs.Common.{◌≡◌, ℕ, Bool, false, List, [], ◌∷◌, ◌++◌, map, Option, Some, None, sym, ap, ◌∙◌}
use Rattle.std.specs.Prelude.{if◌then◌else◌, ◌&&◌}
use Rattle.gq_meaning.specs.Values.{Text}
use Rattle.gq_meaning.specs.Results as result
use Rattle.gq_meaning.specs.Results.{Answer, Answers, Step, key, index, Path, Call}
use Rattle.gq_meaning.specs.Shown.{Data}
use Rattle.gq_meaning.specs.Expand.{Asked, Definition, expand, sets_of}
use Rattle.gq_meaning.specs.Thin.{Thin}
use Rattle.gq_meaning.specs.Response.{FieldType, Given, setting, Place, fails, item_type, item_at, of_key, keys_after, place_of, place_in, indexes, steps, is_non_null}
use Rattle.gq_meaning.specs.Answered.{is_null, Answered, ChildAnswered}
use Rattle.gq_meaning.proofs.Repeats.{thin_of_key, thin_keys_all}
use Rattle.gq_meaning.proofs.SameRepeats.{places_both}
use Rattle.gq_meaning.proofs.Building.{answered_more}

module _ (g : Given) (ds : List Definition) (t : Option FieldType) (group : List Asked) (items : Answers) (call : Option Call) where
  abbrev pub object_place : Text → ℕ → Place
  object_place o n = record { type_ref = t; result = Some (record { label = result.object o n; below = items }); fields = group; call = call }

  abbrev pub list_place : Place
  list_place = record { type_ref = t; result = Some (record { label = result.list; below = items }); fields = group; call = call }

  pub object_steps : (o : Text) (n : ℕ) (fields : List Asked) → fails g (object_place o n) ≡ false → Thin [] (expand (setting g o) ds (sets_of group)) fields → steps g ds (object_place o n) ≡ map key (keys_after [] fields)
  object_steps o n fields f h =
      ap (λ b. if b then [] else map key (keys_after [] (expand (setting g o) ds (sets_of group)))) f ∙ ap (map key) (thin_keys_all _ _ h)

  pub object_child : (o : Text) (n : ℕ) (fields : List Asked) → fails g (object_place o n) ≡ false → Thin [] (expand (setting g o) ds (sets_of group)) fields →
      (path : Path) (k : Text) (stops : Bool) (d : Data) (errors : List Path) (p : Place) → place_of g o n (of_key k fields) ≡ Some p → Answered g ds (path ++ key k ∷ []) p d errors → stops ≡ (is_non_null p.type_ref && is_null d) →
      ChildAnswered g ds path (object_place o n) (key k) stops d errors
  object_child o n fields f h path k stops d errors p e a q =
      let r = (places_both g ds o n (thin_of_key k _ _ h)).1 p e in record {
        place = r.0;
        there = ap (λ b. if b then None else place_of g o n (of_key k (expand (setting g o) ds (sets_of group)))) f ∙ r.1;
        answered = answered_more g ds (path ++ key k ∷ []) r.0 p d errors r.2 a;
        flag = q ∙ ap (λ z. is_non_null z && is_null d) (sym r.2.type_ref);
      }

  pub list_steps : fails g list_place ≡ false → steps g ds list_place ≡ indexes 0 items
  list_steps f = ap (λ b. if b then [] else indexes 0 items) f

  pub list_child : fails g list_place ≡ false → (path : Path) (i : ℕ) (item : Answer) (stops : Bool) (d : Data) (errors : List Path) → item_at items i ≡ Some item →
      Answered g ds (path ++ index i ∷ []) (record { type_ref = item_type t; result = Some item; fields = group; call = None }) d errors → stops ≡ (is_non_null (item_type t) && is_null d) →
      ChildAnswered g ds path list_place (index i) stops d errors
  list_child f path i item stops d errors e a q = record {
    place = record { type_ref = item_type t; result = Some item; fields = group; call = None };
    there = ap (λ b. if b then None else place_in t group (item_at items i)) f ∙ ap (place_in t group) e;
    answered = a;
    flag = q;
  }

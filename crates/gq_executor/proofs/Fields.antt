-- The fields of one key.
use Rattle.std.proofs.Common.{◌≡◌, ℕ, zero, suc, ◌<◌, Bool, true, false, List, [], ◌∷◌, ◌++◌, length, get_or, map, Option, Some, None, refl, sym, ap, ◌∙◌, subst, arith, append-nil, inl, inr}
use Rattle.std.specs.Prelude.{if◌then◌else◌, ◌&&◌}
use Rattle.std.specs.Str.{bytes_eq}
use Rattle.gq_tree.specs.Forest.{none}
use Rattle.gq_tree.specs.Plain.{erase_values}
use Rattle.gq_tree.specs.Views.{argument_view}
use Rattle.gq_meaning.specs.Values.{Text, text}
use Rattle.gq_meaning.specs.Results as result
use Rattle.gq_meaning.specs.Results.{Answer, Path}
use Rattle.gq_meaning.specs.Shown as shown
use Rattle.gq_meaning.specs.Shown.{Data}
use Rattle.gq_meaning.specs.Expand.{Asked}
use Rattle.gq_meaning.specs.Thin.{IsIn}
use Rattle.gq_meaning.specs.Response.{FieldType, Given, Place, place_of, is_non_null, call_at}
use Rattle.gq_meaning.specs.Answered.{is_null, Answered}
use Rattle.gq_meaning.proofs.Ends.{none_below_leaf, leaf_answered}
use Rattle.gq_collect.specs.declared.world.World.{World}
use Rattle.gq_collect.specs.declared.collect.Taken.{Taken}
use Rattle.gq_collect.specs.Given.{typename, typename_type}
use Rattle.gq_collect.specs.World.{given_by, definitions_in, type_in, look_in, call_in}
use Rattle.gq_collect.specs.Views.{asked_of, asked_all}
use Rattle.gq_executor.specs.Answers.{place_with, IsAnswer, IsFieldAnswer}

module _ (world : World) (object : Text) (n : ℕ) where
  abbrev g : Given
  g = given_by world

  -- a field but `__typename`
  pub field_answer : (ts : List Taken) (first : Taken) (t : Option FieldType) (r : Option Answer) (path : Path) (before after : List Path) (stops : Bool) (d : Data) → 0 < length ts → first ≡ get_or ts 0 first → bytes_eq first.name.now typename ≡ false →
      t ≡ type_in world object first.name.now → r ≡ look_in world object n first.name.now (erase_values (map argument_view first.arguments.now)) → stops ≡ (is_non_null t && is_null d) →
      IsAnswer world t r (asked_all ts) path before after d → IsFieldAnswer world object n (asked_all ts) path before after stops d
  field_answer [] first t r path before after stops d l e q u v w a = absurd (omega arith)
  field_answer (x ∷ ts) first t r path before after stops d l e q u v w a =
      let c = if bytes_eq first.name.now typename then None else call_in world object n first.name.now (erase_values (map argument_view first.arguments.now)) in record {
        place = place_with t r (asked_all (x ∷ ts)) c;
        there = ap (λ z. Some (record { type_ref = g.type_of object z.name.now; result = g.look object n z.name.now (erase_values (map argument_view z.arguments.now)); fields = asked_all (x ∷ ts); call = g.call object n z.name.now (erase_values (map argument_view z.arguments.now)) })) (sym e)
            ∙ ap (λ b. Some (place_with (if b then Some typename_type else type_in world object first.name.now) (if b then Some (record { label = result.leaf (text object); below = none }) else look_in world object n first.name.now (erase_values (map argument_view first.arguments.now))) (asked_all (x ∷ ts)) c)) q
            ∙ ap (λ z. Some (place_with z (look_in world object n first.name.now (erase_values (map argument_view first.arguments.now))) (asked_all (x ∷ ts)) c)) (sym u)
            ∙ ap (λ z. Some (place_with t z (asked_all (x ∷ ts)) c)) (sym v);
        errors = a.errors;
        grows = a.grows;
        answered = a.answered c;
        flag = w;
      }

  -- `__typename`
  pub typename_answer : (ts : List Taken) (first : Taken) (path : Path) (before : List Path) (d : Data) → 0 < length ts → first ≡ get_or ts 0 first → bytes_eq first.name.now typename ≡ true → d ≡ record { shown = shown.leaf (text object); below = none } →
      IsFieldAnswer world object n (asked_all ts) path before before false d
  typename_answer [] first path before d l e q h = absurd (omega arith)
  typename_answer (x ∷ ts) first path before d l e q h =
      let p : Place = place_with (Some typename_type) (Some (record { label = result.leaf (text object); below = none })) (asked_all (x ∷ ts)) None in record {
        place = p;
        there = ap (λ z. Some (record { type_ref = g.type_of object z.name.now; result = g.look object n z.name.now (erase_values (map argument_view z.arguments.now)); fields = asked_all (x ∷ ts); call = g.call object n z.name.now (erase_values (map argument_view z.arguments.now)) })) (sym e)
            ∙ ap (λ b. Some (place_with (if b then Some typename_type else type_in world object first.name.now) (if b then Some (record { label = result.leaf (text object); below = none }) else look_in world object n first.name.now (erase_values (map argument_view first.arguments.now))) (asked_all (x ∷ ts)) (if b then None else call_in world object n first.name.now (erase_values (map argument_view first.arguments.now))))) q;
        errors = [];
        grows = sym (append-nil before);
        answered = subst (λ z. Answered g (definitions_in world) path p z []) (sym h) (leaf_answered g (definitions_in world) path p (text object) refl refl (none_below_leaf g (definitions_in world) (text object) none) refl);
        flag = ap (λ z. true && is_null z) (sym h);
      }

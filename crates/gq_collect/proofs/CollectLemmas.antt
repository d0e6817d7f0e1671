-- A collection over a group of fields, and its steps.
use Rattle.std.proofs.Common.{◌≡◌, ℕ, suc, ◌+◌, ◌<◌, ◌≤◌, List, [], ◌∷◌, ◌++◌, length, get_or, drop, Bool, map, Option, Some, None, refl, sym, ap, ◌∙◌, subst, add-one, drop-cons}
use Rattle.std.proofs.Math.ListN.{drop_of_length-le}
use Rattle.std.proofs.lemmas.List.{map-append}
use Rattle.std.specs.Option.{option_map}
use Rattle.gq_meaning.specs.Values.{Text}
use Rattle.std.specs.List.{list_any}
use Rattle.std.specs.Str.{bytes_eq}
use Rattle.gq_tree.specs.declared.value.Directive.{Directive}
use Rattle.gq_tree.specs.Views.{directive_view}
use Rattle.gq_table.specs.Views.{entries_view}
use Rattle.gq_meaning.specs.Directives.{takes_with}
use Rattle.gq_meaning.specs.Selected.{bare, join}
use Rattle.gq_collect.specs.declared.world.World.{World}
use Rattle.gq_meaning.specs.Views.{set_in}
use Rattle.gq_meaning.specs.Expand.{Asked, Definition, Setting, find_definition, sets_of}
use Rattle.gq_meaning.specs.Helping.Gathers.{Gathers, Continues, at_end}
use Rattle.gq_meaning.proofs.Steps.{gathers_first}
use Rattle.gq_collect.specs.declared.collect.Taken.{Taken}
use Rattle.gq_collect.specs.Views.{asked_of, asked_all, setting_in}

pub asked_push : (ts us : List Taken) (t : Taken) (x : Asked) → us ≡ ts ++ t ∷ [] → asked_of t ≡ x → asked_all us ≡ asked_all ts ++ x ∷ []
asked_push ts us t x e q = ap asked_all e ∙ map-append asked_of ts (t ∷ []) ∙ ap (λ z. asked_all ts ++ z ∷ []) q

-- whether directives leave in
pub took : (world : World) (object : Text) (l l' : List Directive) (r b : Bool) → l ≡ l' → r ≡ takes_with (entries_view world.variables.now) (bare (map directive_view l)) → r ≡ b → (setting_in world object).takes (bare (map directive_view l')) ≡ b
took world object l l' r b e t h = ap (λ z. takes_with (entries_view world.variables.now) (bare (map directive_view z))) (sym e) ∙ sym t ∙ h

-- whether a name was visited
pub visited_by : (v : List Text) (a f : Text) (r b : Bool) → a ≡ f → r ≡ list_any (bytes_eq a) v → r ≡ b → list_any (bytes_eq f) v ≡ b
visited_by v a f r b e t h = ap (λ z. list_any (bytes_eq z) v) (sym e) ∙ sym t ∙ h

pub found_none : {A : Type 0} (f : A → Definition) (o : Option A) (ds : List Definition) (a n : Text) → option_map f o ≡ find_definition ds a → a ≡ n → o ≡ None → find_definition ds n ≡ None
found_none f o ds a n e q h = ap (find_definition ds) (sym q) ∙ sym e ∙ ap (option_map f) h

pub found_one : {A : Type 0} (f : A → Definition) (o : Option A) (x : A) (ds : List Definition) (a n : Text) → option_map f o ≡ find_definition ds a → a ≡ n → o ≡ Some x → find_definition ds n ≡ Some (f x)
found_one f o x ds a n e q h = ap (find_definition ds) (sym q) ∙ sym e ∙ ap (option_map f) h

module _ (s : Setting) (ds : List Definition) where
  -- the sets of a group, one after another
  group_next : (ts : List Taken) (i : ℕ) (t : Taken) → i < length ts → t ≡ get_or ts i t → sets_of (asked_all (drop i ts)) ≡ join (set_in t.set.now) (sets_of (asked_all (drop (i + 1) ts)))
  group_next ts i t l e = ap (λ z. sets_of (asked_all z)) (drop-cons ts i t l) ∙ ap (λ z. join (set_in z.set.now) (sets_of (asked_all (drop (suc i) ts)))) (sym e) ∙ ap (λ z. join (set_in t.set.now) (sets_of (asked_all (drop z ts)))) (sym (add-one i))

  pub group_continues : (ts : List Taken) (i : ℕ) (t : Taken) (v v' : List Text) (o o' : List Asked) → i < length ts → t ≡ get_or ts i t →
      Continues s ds (sets_of (asked_all ts)) (sets_of (asked_all (drop i ts))) [] [] v o → Gathers s ds (set_in t.set.now) v o v' o' → Continues s ds (sets_of (asked_all ts)) (sets_of (asked_all (drop (i + 1) ts))) [] [] v' o'
  group_continues ts i t v v' o o' l e c g =
      record { within = record { each = λ x m. absurd m }; by = λ v2 o2 k. c.by v2 o2 (subst (λ z. Gathers s ds z v o v2 o2) (sym (group_next ts i t l e)) (gathers_first s ds (sets_of (asked_all (drop (i + 1) ts))) g v2 o2 k)) }

  pub group_done : (ts : List Taken) (i : ℕ) (v : List Text) (o : List Asked) → length ts ≤ i → Continues s ds (sets_of (asked_all ts)) (sets_of (asked_all (drop i ts))) [] [] v o → Gathers s ds (sets_of (asked_all ts)) [] [] v o
  group_done ts i v o l c = c.by v o (subst (λ z. Gathers s ds z v o v o) (sym (ap (λ z. sets_of (asked_all z)) (drop_of_length-le ts l))) at_end)

  pub group_starts : (ts us : List Taken) (v : List Text) → v ≡ [] → us ≡ [] → Continues s ds (sets_of (asked_all ts)) (sets_of (asked_all ts)) [] [] v (asked_all us)
  group_starts ts us v e q = record {
    within = record { each = λ x m. absurd m };
    by = λ v2 o2 k. subst (λ z. Gathers s ds (sets_of (asked_all ts)) [] z v2 o2) (ap asked_all q) (subst (λ z. Gathers s ds (sets_of (asked_all ts)) z (asked_all us) v2 o2) e k);
  }

-- What is found by its name, as the code finds it.
use Rattle.std.proofs.Common.{◌≡◌, ℕ, Bool, true, false, cond, List, [], ◌∷◌, map, Option, Some, None, length, get_or, refl, ap, sym, ◌∙◌, arith, ◌<◌}
use Rattle.std.specs.Option.{option_map, option_and_then}
use Rattle.std.specs.List.{find, position, slice_get}
use Rattle.std.specs.Str.{bytes_eq}
use Rattle.std.proofs.lemmas.Option.{slice_get_read, same_Some, none-some}
use Rattle.std.proofs.lemmas.List.{length-map}
use Rattle.std.proofs.lemmas.List.Quantifiers.{position-Some}
use Rattle.gq_meaning.proofs.TextLemmas.{same_text}
use Rattle.gq_meaning.specs.Values.{Text}
use Rattle.gq_meaning.specs.Directives.{entry_of}
use Rattle.gq_types.proofs.Searches.{find_through, position_map}
use Rattle.gq_table.specs.declared.values.Entry.{Entry}
use Rattle.gq_table.specs.Views.{under, value_view, entry_view, entries_view}

-- what stands at the place of a name is the first that is found
module _ {X : Type 0} (name_in : X → Text) (name : Text) (xs : List X) (names : List Text) (are : names ≡ map name_in xs) where
  through : find (λ y. bytes_eq name (name_in y)) xs ≡ option_and_then (λ i. slice_get xs i) (position (bytes_eq name) names)
  through =
      find_through (λ y. bytes_eq name (name_in y)) xs
      ∙ ap (λ o. option_and_then (λ i. slice_get xs i) o) (sym (position_map (bytes_eq name) name_in xs) ∙ ap (λ ns. position (bytes_eq name) ns) (sym are))

  pub found_at : (place : ℕ) (x : X) → position (bytes_eq name) names ≡ Some place → x ≡ get_or xs place x → find (λ y. bytes_eq name (name_in y)) xs ≡ Some (get_or xs place x)
  found_at place x at read =
      let within = position-Some (bytes_eq name) names place [] at in
      let count : length names ≡ length xs = ap length are ∙ length-map xs name_in in
      through ∙ ap (λ o. option_and_then (λ i. slice_get xs i) o) at ∙ slice_get_read xs (length xs) place x refl (omega (arith, within.0, count)) read ∙ ap Some read

  pub found_nowhere : position (bytes_eq name) names ≡ None → find (λ y. bytes_eq name (name_in y)) xs ≡ None
  found_nowhere at = through ∙ ap (λ o. option_and_then (λ i. slice_get xs i) o) at

  -- a name that is found stands there
  pub place_within : (place : ℕ) → position (bytes_eq name) names ≡ Some place → place < length xs
  place_within place at =
      let within = position-Some (bytes_eq name) names place [] at in
      let count : length names ≡ length xs = ap length are ∙ length-map xs name_in in
      omega (arith, within.0, count)

-- what is found passes
found_passes_by : {X : Type 0} (p : X → Bool) (y x : X) (ys : List X) (b : Bool) → p y ≡ b → (find p ys ≡ Some x → p x ≡ true) → cond b (Some y) (find p ys) ≡ Some x → p x ≡ true
found_passes_by p y x ys true is rest h = ap p (sym (same_Some y x h)) ∙ is
found_passes_by p y x ys false is rest h = rest h

pub found_passes : {X : Type 0} (p : X → Bool) (xs : List X) (x : X) → find p xs ≡ Some x → p x ≡ true
found_passes p [] x h = absurd (none-some x h)
found_passes p (y ∷ ys) x h = found_passes_by p y x ys (p y) refl (found_passes p ys x) h

-- the entry of a name, as the code has it
entry_by : (name : Text) (e : Entry) (es : List Entry) (b : Bool) → entry_of name (entries_view es) ≡ option_map entry_view (find (λ e. bytes_eq name e.name) es) →
    cond b (Some (entry_view e)) (entry_of name (entries_view es)) ≡ option_map entry_view (cond b (Some e) (find (λ e. bytes_eq name e.name) es))
entry_by name e es true rest = refl
entry_by name e es false rest = rest

pub entry_found : (name : Text) (es : List Entry) → entry_of name (entries_view es) ≡ option_map entry_view (find (λ e. bytes_eq name e.name) es)
entry_found name [] = refl
entry_found name (e ∷ es) = entry_by name e es (bytes_eq name e.name) (entry_found name es)

pub entry_is : (name : Text) (es : List Entry) (e : Entry) → find (λ e. bytes_eq name e.name) es ≡ Some e → entry_of name (entries_view es) ≡ Some (under name (value_view e.value))
entry_is name es e h =
    entry_found name es ∙ ap (λ o. option_map entry_view o) h ∙ ap (λ (t : Text). Some (under t (value_view e.value))) (sym (same_text name e.name (found_passes (λ e. bytes_eq name e.name) es e h)))

pub no_entry : (name : Text) (es : List Entry) → find (λ e. bytes_eq name e.name) es ≡ None → entry_of name (entries_view es) ≡ None
no_entry name es h = entry_found name es ∙ ap (λ o. option_map entry_view o) h

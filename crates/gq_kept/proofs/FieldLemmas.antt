-- Fields between those that are the same.
use Rattle.std.proofs.Common.{◌≡◌, ℕ, ◌-◌, List, [], ◌∷◌, ◌++◌, map, take, drop, length, refl, sym, ◌∙◌, ap, Bool, true, false, append_assoc, length-drop, arith}
use Rattle.std.specs.Prelude.{filter, not, cond, ◌||◌}
use Rattle.std.specs.Str.{bytes_eq}
use Rattle.std.proofs.lemmas.Slice.Eq.{bytes_eq-Decides}
use Rattle.std.proofs.lemmas.List.{take-append-drop, take_all, map-append}
use Rattle.std.proofs.lemmas.List.Elements.{filter-append}
use Rattle.std.proofs.lemmas.List.Folds.{list_any-append}
use Rattle.gq_text.specs.declared.place.Span.{Span}
use Rattle.gq_tree.specs.declared.type_system.FieldDefinition.{FieldDefinition}
use Rattle.gq_tree.specs.Plain.{FieldDefinitionOf, place_field, no_place}
use Rattle.gq_tree.specs.Views.{field_definition_view}
use Rattle.gq_types.specs.Entries.{Text}
use Rattle.gq_laws.specs.Placing.OtherFields.{is_one_of, fields_without}
use Rattle.gq_kept.specs.Helping.Gathered.{Gathered}

abbrev Bare : Type 0
Bare = FieldDefinitionOf (Unit {0})

-- a field without its places, and the fields without their places that have none of those names
abbrev bare : FieldDefinition → Bare
bare d = place_field no_place (field_definition_view d)

abbrev bare_without : List Text → List Bare → List Bare
bare_without names fields = filter (λ f. not (is_one_of names f.name.text)) fields

abbrev left : List Text → List FieldDefinition → List Bare
left names ds = map (place_field no_place) (fields_without names (map field_definition_view ds))

consed : (b : Bool) (f : FieldDefinitionOf Span) (fs : List (FieldDefinitionOf Span)) →
    map (place_field no_place) (cond b (f ∷ fs) fs) ≡ cond b (place_field no_place f ∷ map (place_field no_place) fs) (map (place_field no_place) fs)
consed true f fs = refl
consed false f fs = refl

-- places may be forgotten first
left_bare : (names : List Text) (ds : List FieldDefinition) → left names ds ≡ bare_without names (map bare ds)
left_bare names [] = refl
left_bare names (d ∷ ds) =
    let b = not (is_one_of names d.name.text) in
    consed b (field_definition_view d) (fields_without names (map field_definition_view ds)) ∙ ap (λ (r : List Bare). cond b (bare d ∷ r) r) (left_bare names ds)

left_append : (names : List Text) (ds es : List FieldDefinition) → left names (ds ++ es) ≡ left names ds ++ left names es
left_append names ds es =
    left_bare names (ds ++ es) ∙ ap (bare_without names) (map-append bare ds es) ∙ filter-append (λ (f : Bare). not (is_one_of names f.name.text)) (map bare ds) (map bare es)
    ∙ ap (λ r. r ++ bare_without names (map bare es)) (sym (left_bare names ds)) ∙ ap (λ r. left names ds ++ r) (sym (left_bare names es))

left_alike : (names : List Text) (ds es : List FieldDefinition) → map bare ds ≡ map bare es → left names ds ≡ left names es
left_alike names ds es e = left_bare names ds ∙ ap (bare_without names) e ∙ sym (left_bare names es)

or_true : (b : Bool) → (b || true) ≡ true
or_true true = refl
or_true false = refl

-- a name is one of those among which it stands
is_there : (names more ts : List Text) (t : Text) → is_one_of ((names ++ (t ∷ ts)) ++ more) t ≡ true
is_there names more ts t =
    list_any-append (bytes_eq t) (names ++ (t ∷ ts)) more
    ∙ ap (λ b. b || is_one_of more t) (list_any-append (bytes_eq t) names (t ∷ ts) ∙ ap (λ b. is_one_of names t || (b || is_one_of ts t)) ((bytes_eq-Decides t t).1 refl) ∙ or_true (is_one_of names t))

abbrev texts : List FieldDefinition → List Text
texts ds = map (λ d. d.name.text) ds

-- none is left of those whose names are among the names
none_left : (names more : List Text) (ds : List FieldDefinition) → fields_without ((names ++ texts ds) ++ more) (map field_definition_view ds) ≡ []
none_left names more [] = refl
none_left names more (d ∷ ds) =
    let t = d.name.text in
    let all = (names ++ (t ∷ texts ds)) ++ more in
    let rest = fields_without all (map field_definition_view ds) in
    ap (λ b. cond (not b) (field_definition_view d ∷ rest) rest) (is_there names more (texts ds) t)
    ∙ ap (λ r. fields_without (r ++ more) (map field_definition_view ds)) (sym (append_assoc names (t ∷ []) (texts ds)))
    ∙ none_left (names ++ (t ∷ [])) more ds

-- the front, what stands between, and the back
parted : (ds heads rest : List FieldDefinition) (k : ℕ) (names : List Text) → heads ++ rest ≡ ds → left names ds ≡ left names heads ++ (left names (take k rest) ++ left names (drop k rest))
parted ds heads rest k names whole =
    ap (left names) (sym whole) ∙ left_append names heads rest
    ∙ ap (λ r. left names heads ++ r) (ap (left names) (sym (take-append-drop k rest)) ∙ left_append names (take k rest) (drop k rest))

-- a list is what is taken at its front, and all that is left
pub rejoined : {A : Type 0} (front : ℕ) (xs : List A) → take front xs ++ take (length xs - front) (drop front xs) ≡ xs
rejoined front xs = ap (λ r. take front xs ++ r) (take_all (length xs - front) (drop front xs) (omega (arith, length-drop front xs))) ∙ take-append-drop front xs

-- the names of all that stands between are gathered
pub between : (ds heads rest es fronts others : List FieldDefinition) (k l : ℕ) (before mid after : List Text) → heads ++ rest ≡ ds → fronts ++ others ≡ es → map bare heads ≡ map bare fronts →
    map bare (drop k rest) ≡ map bare (drop l others) → mid ≡ before ++ texts (take k rest) → after ≡ mid ++ texts (take l others) → Gathered before after (λ names. left names ds ≡ left names es)
between ds heads rest es fronts others k l before mid after whole all alike_front alike_back first second =
    let these = take k rest in
    let those = take l others in
    let behind : after ≡ before ++ (texts these ++ texts those) = second ∙ ap (λ r. r ++ texts those) first ∙ append_assoc before (texts these) (texts those) in
    record {
      added = texts these ++ texts those;
      behind = behind;
      holds = λ more.
          let names = after ++ more in
          let of_these : names ≡ (before ++ texts these) ++ (texts those ++ more) =
          ap (λ r. r ++ more) (second ∙ ap (λ r. r ++ texts those) first) ∙ append_assoc (before ++ texts these) (texts those) more in
          let of_those : names ≡ (mid ++ texts those) ++ more = ap (λ r. r ++ more) second in
          let no_these : left names these ≡ [] = ap (λ r. left r these) of_these ∙ ap (map (place_field no_place)) (none_left before (texts those ++ more) these) in
          let no_those : left names those ≡ [] = ap (λ r. left r those) of_those ∙ ap (map (place_field no_place)) (none_left mid more those) in
          parted ds heads rest k names whole
          ∙ ap (λ r. r ++ (left names these ++ left names (drop k rest))) (left_alike names heads fronts alike_front)
          ∙ ap (λ r. left names fronts ++ (r ++ left names (drop k rest))) (no_these ∙ sym no_those)
          ∙ ap (λ r. left names fronts ++ (left names those ++ r)) (left_alike names (drop k rest) (drop l others) alike_back)
          ∙ sym (parted es fronts others l names all);
    }

-- The names that are gathered of a type are those of the fields that can be selected of it.
use Rattle.std.proofs.Common.{◌≡◌, ◌↔◌, ℕ, Bool, true, false, List, [], ◌∷◌, Option, Some, None, refl, sym, ap, ◌∙◌, subst, Contains, ⊎_elim}
use Rattle.std.specs.Prelude.{find, if◌then◌else◌, option_and_then}
use Rattle.std.specs.Option.{option_map, option_map_or}
use Rattle.std.specs.Str.{bytes_eq}
use Rattle.std.specs.Cmp.Lexicographic.{bytes_decides}
use Rattle.std.proofs.lemmas.List.Elements.{Contains-append_left, Contains-append_right, Contains-append_cases}
use Rattle.gq_text.specs.declared.place.Span.{Span}
use Rattle.gq_tree.specs.Plain.{FieldDefinitionOf, Def}
use Rattle.gq_types.specs.Entries.{Text, EntryOf}
use Rattle.gq_types.specs.Joined.{In, type_number, fields_in_body, fields_of}
use Rattle.gq_types.specs.Look.{joined_numbers}
use Rattle.gq_types.specs.LookUps.{parts_of_entry}
use Rattle.gq_types.specs.Names.{field_named}
use Rattle.gq_types.proofs.Gathered.{nothing_in, first, only, cases_cons, from_flat, to_flat, found, mapped}
use Rattle.gq_types.proofs.PartLemmas.{from_parts, to_parts}
use Rattle.gq_document.specs.Selections.{FieldOf, typename, typename_field, is_composite_named, field_on, selected_field}
use Rattle.gq_completion.specs.Completions.{IsFieldIn}
use Rattle.gq_document.specs.Sets.{SetOf}
use Rattle.gq_completion.specs.Sets.{innermost, is_within_one}
use Rattle.gq_completion.specs.Helping.FieldNames.{own_name, own_names_at, own_names, typename_on, names_on}

abbrev Has : List EntryOf → Text → Text → Type 0
Has es type_name label = (field : FieldOf) × (field_on es type_name label ≡ Some field)

abbrev Field : Type 0
Field = In (FieldDefinitionOf Span)

abbrev named : Text → Field → Bool
named label f = bytes_eq label f.it.name.text

abbrev field_of : FieldDefinitionOf Span → FieldOf
field_of f = record { type_ref = f.type_ref; arguments = f.arguments }

-- a test that one passes finds one
module _ (p : Field → Bool) (x : Field) (xs : List Field) (y : Field) where
  finds_first : (Contains xs y → (z : Field) × (find p xs ≡ Some z)) → Contains (x ∷ xs) y → p y ≡ true → (b : Bool) → p x ≡ b → (z : Field) × ((if b then Some x else find p xs) ≡ Some z)
  finds_first rest c h true e = (x, refl)
  finds_first rest c h false e = ⊎_elim
      (λ (same : x ≡ y). let no : false ≡ true = sym e ∙ ap p same ∙ h in absurd (cc))
      rest
      (cases_cons x y xs c)

finds : (p : Field → Bool) (xs : List Field) (y : Field) → Contains xs y → p y ≡ true → (x : Field) × (find p xs ≡ Some x)
finds p [] y c h = nothing_in y c
finds p (x ∷ xs) y c h = finds_first p x xs y (λ d. finds p xs y d h) c h (p x) refl

own_is : (b : Bool) (text label : Text) → Contains (if b then [] else text ∷ []) label → (b ≡ false) × (label ≡ text)
own_is true text label c = nothing_in label c
own_is false text label c = (refl, only text label c)

typename_is : (b : Bool) (label : Text) → Contains (if b then typename ∷ [] else []) label → (b ≡ true) × (label ≡ typename)
typename_is true label c = (refl, only typename label c)
typename_is false label c = nothing_in label c

-- a field by another name than `__typename`
other_field : (es : List EntryOf) (type_name label : Text) (f : FieldDefinitionOf Span) → bytes_eq label typename ≡ false → field_named es type_name label ≡ Some f → Has es type_name label
other_field es type_name label f e h =
    let there : ◌≡◌ {A = Option FieldOf} (option_map field_of (field_named es type_name label)) (Some (field_of f)) = ap (option_map field_of) h in
    (field_of f, subst (λ b. (if b then (if is_composite_named es type_name then Some typename_field else None) else option_map field_of (field_named es type_name label)) ≡ Some (field_of f)) (sym e) there)

from_own : (es : List EntryOf) (type_name label : Text) (o : Option ℕ) → type_number es type_name ≡ o → Contains (option_map_or (own_names es) o []) label → Has es type_name label
from_own es type_name label None e c = nothing_in label c
from_own es type_name label (Some number) e c =
    let k = from_flat (own_names_at es) (joined_numbers es number) label c in
    let f = from_flat (λ (g : FieldDefinitionOf Span). own_name g.name.text) (parts_of_entry fields_in_body es k.0) label k.2 in
    let own = own_is (bytes_eq f.0.name.text typename) f.0.name.text label f.2 in
    let p = to_parts fields_in_body es number k.0 f.0 k.1 f.1 in
    let same : label ≡ p.0.it.name.text = own.1 ∙ ap (λ (g : FieldDefinitionOf Span). g.name.text) (sym p.2) in
    let x = finds (named label) (fields_of es number) p.0 p.1 ((bytes_decides label p.0.it.name.text).1 same) in
    let is_named : field_named es type_name label ≡ Some x.0.it =
    subst (λ (n : Option ℕ). option_and_then (λ number. option_map (λ (g : Field). g.it) (find (named label) (fields_of es number))) n ≡ Some x.0.it) (sym e) (ap (option_map (λ (g : Field). g.it)) x.1) in
    other_field es type_name label x.0.it (subst (λ t. bytes_eq t typename ≡ false) (sym own.1) own.0) is_named

from_names : (es : List EntryOf) (type_name label : Text) → Contains (names_on es type_name) label → Has es type_name label
from_names es type_name label c = ⊎_elim
    (λ a.
    let t = typename_is (is_composite_named es type_name) label a in (
      typename_field,
      subst (λ b. (if b then (if is_composite_named es type_name then Some typename_field else None) else option_map field_of (field_named es type_name label)) ≡ Some typename_field) (sym ((bytes_decides label typename).1 t.1))
          (subst (λ b. (if b then Some typename_field else None) ≡ Some typename_field) (sym t.0) refl),
    ))
    (λ b. from_own es type_name label (type_number es type_name) refl b)
    (Contains-append_cases (typename_on es type_name) (option_map_or (own_names es) (type_number es type_name) []) label c)

to_typename : (b : Bool) (label : Text) (field : FieldOf) → (if b then Some typename_field else None) ≡ Some field → label ≡ typename → Contains (if b then typename ∷ [] else []) label
to_typename true label field h e = first typename label [] (sym e)
to_typename false label field h e = absurd (cc)

to_own : (es : List EntryOf) (label : Text) (f : FieldDefinitionOf Span) (o : Option ℕ) → bytes_eq label typename ≡ false →
    option_and_then (λ number. option_map (λ (g : Field). g.it) (find (named label) (fields_of es number))) o ≡ Some f → Contains (option_map_or (own_names es) o []) label
to_own es label f None e h = absurd (cc)
to_own es label f (Some number) e h =
    let x = mapped (λ (g : Field). g.it) (find (named label) (fields_of es number)) f h in
    let there = found (named label) (fields_of es number) x.0 x.1 in
    let same : label ≡ x.0.it.name.text = (bytes_decides label x.0.it.name.text).0 there.1 in
    let k = from_parts fields_in_body es number x.0 there.0 in
    let other : bytes_eq x.0.it.name.text typename ≡ false = subst (λ t. bytes_eq t typename ≡ false) same e in
    to_flat (own_names_at es) (joined_numbers es number) k.0 label k.1
    (to_flat (λ (g : FieldDefinitionOf Span). own_name g.name.text) (parts_of_entry fields_in_body es k.0) x.0.it label k.2
    (subst (λ b. Contains (if b then [] else x.0.it.name.text ∷ []) label) (sym other) (first x.0.it.name.text label [] (sym same))))

to_names : (es : List EntryOf) (type_name label : Text) (field : FieldOf) (b : Bool) → bytes_eq label typename ≡ b →
    (if b then (if is_composite_named es type_name then Some typename_field else None) else option_map field_of (field_named es type_name label)) ≡ Some field → Contains (names_on es type_name) label
to_names es type_name label field true e h =
    Contains-append_left (typename_on es type_name) _ label (to_typename (is_composite_named es type_name) label field h ((bytes_decides label typename).0 e))
to_names es type_name label field false e h =
    let f = mapped field_of (field_named es type_name label) field h in
    Contains-append_right (typename_on es type_name) _ label (to_own es label f.0 (type_number es type_name) e f.1)

pub names_are : (es : List EntryOf) (parent : Option Text) (type_name : Text) (names : List Text) → parent ≡ Some type_name → names ≡ names_on es type_name →
    (label : Text) → Contains names label ↔ ((field : FieldOf) × (selected_field es parent label ≡ Some field))
names_are es parent type_name names known is label =
    let both : Contains (names_on es type_name) label ↔ ((field : FieldOf) × (selected_field es (Some type_name) label ≡ Some field)) =
    (λ c. from_names es type_name label c, λ h. to_names es type_name label h.0 (bytes_eq label typename) refl h.1) in
    subst (λ (o : Option Text). Contains names label ↔ ((field : FieldOf) × (selected_field es o label ≡ Some field))) (sym known)
    (subst (λ (xs : List Text). Contains xs label ↔ ((field : FieldOf) × (selected_field es (Some type_name) label ≡ Some field))) (sym is) both)

-- in the innermost set
pub of_set : (es : List EntryOf) (tree : List (Def Span)) (p i : ℕ) (set : SetOf) → innermost es i tree ≡ Some set → is_within_one p set.selections ≡ false → (names : List Text) →
    ((label : Text) → Contains names label ↔ ((field : FieldOf) × (selected_field es set.parent label ≡ Some field))) → (label : Text) → Contains names label ↔ IsFieldIn es tree p i label
of_set es tree p i set e apart names are label = (
  λ c. let f = (are label).0 c in record { set = set; stands_in = e; apart = apart; field = f.0; has = f.1 },
  λ h.
      let same : ◌≡◌ {A = Option SetOf} (Some set) (Some h.set) = sym e ∙ h.stands_in in
      let one : set ≡ h.set = cc in
      (are label).1 (h.field, ap (λ (s : SetOf). selected_field es s.parent label) one ∙ h.has),
)

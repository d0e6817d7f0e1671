-- The parts of one more entry.
use Rattle.std.proofs.Common.{◌≡◌, ℕ, ◌+◌, List, [], ◌∷◌, ◌++◌, Some, length, map, suc, zero, refl, sym, ◌∙◌, ap, subst, append-nil}
use Rattle.std.specs.Option.{option_map_or}
use Rattle.std.specs.List.{slice_get}
use Rattle.gq_tree.specs.declared.tree.Name.{Name}
use Rattle.gq_tree.specs.declared.type_system.FieldDefinition.{FieldDefinition}
use Rattle.gq_tree.specs.declared.type_system.InputValueDefinition.{InputValueDefinition}
use Rattle.gq_tree.specs.declared.type_system.EnumValueDefinition.{EnumValueDefinition}
use Rattle.gq_text.specs.declared.place.Span.{Span}
use Rattle.gq_tree.specs.Plain.{FieldDefinitionOf, scalar_type, object_type, interface_type, union_type, enum_type, input_type}
use Rattle.gq_tree.specs.Views.{name_of, field_definition_view, input_view, enum_value_view}
use Rattle.gq_types.specs.declared.parts.Place.{Place}
use Rattle.gq_types.specs.Entries.{Text, EntryOf}
use Rattle.gq_types.specs.Joined.{body_in}
use Rattle.gq_types.specs.Helping.Tables.{places_from, Lists, add_body, add_entry, EachAt}

-- the names and places of what the code reads
pub fields_seen : (fs : List FieldDefinition) → map (λ f. f.name.text) (map field_definition_view fs) ≡ map (λ f. f.name.text) fs
fields_seen [] = refl
fields_seen (f ∷ fs) = ap (λ ts. f.name.text ∷ ts) (fields_seen fs)

inputs_seen : (fs : List InputValueDefinition) → map (λ f. f.name.text) (map input_view fs) ≡ map (λ f. f.name.text) fs
inputs_seen [] = refl
inputs_seen (f ∷ fs) = ap (λ ts. f.name.text ∷ ts) (inputs_seen fs)

values_seen : (vs : List EnumValueDefinition) → map (λ v. v.name.text) (map enum_value_view vs) ≡ map (λ v. v.name.text) vs
values_seen [] = refl
values_seen (v ∷ vs) = ap (λ ts. v.name.text ∷ ts) (values_seen vs)

names_seen : (ns : List Name) → map (λ n. n.text) (map name_of ns) ≡ map (λ n. n.text) ns
names_seen [] = refl
names_seen (n ∷ ns) = ap (λ ts. n.text ∷ ts) (names_seen ns)

pub places_seen : {A B : Type 0} (view : A → B) (entry index : ℕ) (xs : List A) → places_from entry index (map view xs) ≡ places_from entry index xs
places_seen view entry index [] = refl
places_seen view entry index (x ∷ xs) = ap (λ ps. record { entry = entry; index = index } ∷ ps) (places_seen view entry (index + 1) xs)

lists_same : (inputs inputs' : List Text) (spots spots' : List Place) (values values' members members' interfaces interfaces' : List Text)
    → inputs ≡ inputs' → spots ≡ spots' → values ≡ values' → members ≡ members' → interfaces ≡ interfaces'
    → ◌≡◌ {A = Lists} record { input_names = inputs; input_places = spots; values = values; members = members; interfaces = interfaces }
    record { input_names = inputs'; input_places = spots'; values = values'; members = members'; interfaces = interfaces' }
lists_same inputs inputs' spots spots' values values' members members' interfaces interfaces' a b c d e = cc

module _ (l : Lists) (number : ℕ) where
  pub scalar_adds : l ≡ add_body l number scalar_type
  scalar_adds =
      lists_same _ _ _ _ _ _ _ _ _ _ (sym (append-nil l.input_names)) (sym (append-nil l.input_places)) (sym (append-nil l.values)) (sym (append-nil l.members)) (sym (append-nil l.interfaces))

  module _ (is : List Name) (interfaces : List Text) (declared : interfaces ≡ l.interfaces ++ map (λ i. i.text) is) (fs : List (FieldDefinitionOf Span)) where
    abbrev grown : Lists
    grown = record { input_names = l.input_names; input_places = l.input_places; values = l.values; members = l.members; interfaces = interfaces }

    pub object_adds : grown ≡ add_body l number (object_type (map name_of is) fs)
    object_adds =
        lists_same _ _ _ _ _ _ _ _ _ _ (sym (append-nil l.input_names)) (sym (append-nil l.input_places)) (sym (append-nil l.values)) (sym (append-nil l.members))
        (declared ∙ ap (λ ts. l.interfaces ++ ts) (sym (names_seen is)))

    pub interface_adds : grown ≡ add_body l number (interface_type (map name_of is) fs)
    interface_adds = object_adds

  pub union_adds : (ms : List Name) (members : List Text) → members ≡ l.members ++ map (λ m. m.text) ms
      → ◌≡◌ {A = Lists} record { input_names = l.input_names; input_places = l.input_places; values = l.values; members = members; interfaces = l.interfaces }
      (add_body l number (union_type (map name_of ms)))
  union_adds ms members is =
      lists_same _ _ _ _ _ _ _ _ _ _ (sym (append-nil l.input_names)) (sym (append-nil l.input_places)) (sym (append-nil l.values))
      (is ∙ ap (λ ts. l.members ++ ts) (sym (names_seen ms))) (sym (append-nil l.interfaces))

  pub enum_adds : (vs : List EnumValueDefinition) (values : List Text) → values ≡ l.values ++ map (λ v. v.name.text) vs
      → ◌≡◌ {A = Lists} record { input_names = l.input_names; input_places = l.input_places; values = values; members = l.members; interfaces = l.interfaces }
      (add_body l number (enum_type (map enum_value_view vs)))
  enum_adds vs values is =
      lists_same _ _ _ _ _ _ _ _ _ _ (sym (append-nil l.input_names)) (sym (append-nil l.input_places)) (is ∙ ap (λ ts. l.values ++ ts) (sym (values_seen vs)))
      (sym (append-nil l.members)) (sym (append-nil l.interfaces))

  pub input_adds : (fs : List InputValueDefinition) (inputs : List Text) (spots : List Place) → inputs ≡ l.input_names ++ map (λ f. f.name.text) fs → spots ≡ l.input_places ++ places_from number 0 fs
      → ◌≡◌ {A = Lists} record { input_names = inputs; input_places = spots; values = l.values; members = l.members; interfaces = l.interfaces }
      (add_body l number (input_type (map input_view fs)))
  input_adds fs inputs spots named placed =
      lists_same _ _ _ _ _ _ _ _ _ _ (named ∙ ap (λ ts. l.input_names ++ ts) (sym (inputs_seen fs)))
      (placed ∙ ap (λ ps. l.input_places ++ ps) (sym (places_seen input_view number 0 fs))) (sym (append-nil l.values)) (sym (append-nil l.members)) (sym (append-nil l.interfaces))

  -- an entry that is no type
  pub other_adds : (es : List EntryOf) (e : EntryOf) → slice_get es number ≡ Some e → body_in e.definition ≡ scalar_type → l ≡ add_entry es l number
  other_adds es e there is = scalar_adds ∙ ap (λ body. add_body l number body) (sym is) ∙ sym (ap (λ o. option_map_or (λ e. add_body l number (body_in e.definition)) o l) there)

-- one more item for which it holds
pub each_push : {A : Type 0} (P : ℕ → A → Type 0) (xs : List A) (x : A) → EachAt P xs → P (length xs) x → EachAt P (xs ++ x ∷ [])
each_push P [] x each here zero y is = let e : x ≡ y = cc in subst (λ z. P 0 z) e here
each_push P [] x each here (suc i) y is = absurd (cc)
each_push P (z ∷ xs) x each here zero y is = each 0 y is
each_push P (z ∷ xs) x each here (suc i) y is = each_push (λ i y. P (suc i) y) xs x (λ i y is. each (suc i) y is) here i y is

-- The names and locations that are kept of definitions are those of type systems that are equal but for their places.
use Rattle.std.proofs.Common.{◌≡◌, ℕ, zero, suc, ◌+◌, true, false, List, [], ◌∷◌, ◌++◌, Option, Some, slice_get, map, refl, ap, ◌∙◌}
use Rattle.std.specs.List.{list_any}
use Rattle.std.specs.Option.{option_map}
use Rattle.gq_text.specs.declared.place.Span.{Span}
use Rattle.gq_tree.specs.declared.type_system.DirectiveLocation.{DirectiveLocation}
use Rattle.gq_tree.specs.Plain.{FieldDefinitionOf, TypeSystemOf, schema, type_definition, directive_definition, place_input, place_field, place_body, place_type_system, no_place}
use Rattle.gq_tree.specs.Same.{same_locations}
use Rattle.gq_types.specs.declared.argument_names.ArgumentNames.{ArgumentNames}
use Rattle.gq_types.specs.declared.entry.TypeKind.{TypeKind}
use Rattle.gq_types.specs.declared.table.Table.{Table}
use Rattle.gq_types.specs.Directives.{locations_in}
use Rattle.gq_types.specs.Entries.{Text, EntryOf}
use Rattle.gq_types.specs.ErasedEntries.{erase_entry}
use Rattle.gq_types.specs.Outlines.{outline}
use Rattle.gq_types.specs.Joined.{kind_in, fields_in_body}
use Rattle.gq_types.specs.Helping.Index.{AreArgumentNames, AreLocations, AreNamesOfEach, argument_lists}
use Rattle.gq_types.specs.Helping.Tables.{type_key, directive_key, at_most_one, names_in, numbers_in, AreDefinitions, AreNames}
use Rattle.gq_types.proofs.Placing.Alike.{back}
use Rattle.gq_types.proofs.Placing.Entries.{fields_alike}
use Rattle.gq_types.proofs.Placing.Outlines.{blind, kind_seen, outline_of, schema_numbers}
use Rattle.gq_types.proofs.Placing.Lists.{lengths, weaken}
use Rattle.gq_types.proofs.Placing.Required.{required_alike}

-- what is at a place of one list, at the same place of the other
got : {A K : Type 0} (h : A → K) (xs ys : List A) → map h xs ≡ map h ys → (k : ℕ) (y : A) → slice_get ys k ≡ Some y → (x : A) × (slice_get xs k ≡ Some x) × (h x ≡ h y)
got h xs [] e k y s = absurd (cc)
got h [] (b ∷ ys) e k y s = absurd (cc)
got h (a ∷ xs) (b ∷ ys) e zero y s =
    let first : h a ≡ h b = cc in
    let same : b ≡ y = cc in
    (a, refl, first ∙ ap h same)
got h (a ∷ xs) (b ∷ ys) e (suc k) y s =
    let rest : map h xs ≡ map h ys = cc in
    got h xs ys rest k y s

-- the arguments of each field, or of the directive
of_fields : (fs gs : List (FieldDefinitionOf Span)) → map (place_field no_place) fs ≡ map (place_field no_place) gs →
    map (map (place_input no_place)) (map (λ f. f.arguments) fs) ≡ map (map (place_input no_place)) (map (λ f. f.arguments) gs)
of_fields [] [] e = refl
of_fields [] (g ∷ gs) e = absurd (cc)
of_fields (f ∷ fs) [] e = absurd (cc)
of_fields (f ∷ fs) (g ∷ gs) e =
    let first : place_field no_place f ≡ place_field no_place g = cc in
    let rest : map (place_field no_place) fs ≡ map (place_field no_place) gs = cc in
    ap (λ z. z.arguments ∷ map (map (place_input no_place)) (map (λ f. f.arguments) fs)) first
    ∙ ap (λ z. map (place_input no_place) g.arguments ∷ z) (of_fields fs gs rest)

lists_alike : (d u : TypeSystemOf Span) → place_type_system no_place d ≡ place_type_system no_place u → map (map (place_input no_place)) (argument_lists d) ≡ map (map (place_input no_place)) (argument_lists u)
lists_alike (schema a b c d e) (schema a2 b2 c2 d2 e2) h = refl
lists_alike (type_definition a b c d e g) (type_definition a2 b2 c2 d2 e2 g2) h =
    let bodies : place_body no_place e ≡ place_body no_place e2 = cc in
    of_fields (fields_in_body e) (fields_in_body e2) (fields_alike e e2 bodies)
lists_alike (directive_definition a b c d e g) (directive_definition a2 b2 c2 d2 e2 g2) h =
    let arguments : map (place_input no_place) c ≡ map (place_input no_place) c2 = cc in
    ap (λ z. z ∷ []) arguments
lists_alike _ _ h = absurd (cc)

pub names_of_each_stay : (d u : EntryOf) → erase_entry d ≡ erase_entry u → (names : List ArgumentNames) → AreNamesOfEach (argument_lists d.definition) names → AreNamesOfEach (argument_lists u.definition) names
names_of_each_stay d u same names are i n inside arguments stands =
    let o = got (map (place_input no_place)) (argument_lists d.definition) (argument_lists u.definition) (lists_alike d.definition u.definition same) i arguments stands in
    let r = are i n inside o.0 o.1 in
    (r.0 ∙ weaken (place_input no_place) (λ a. a.name.text) (λ a b p. ap (λ z. z.name.text) p) o.0 arguments o.2, r.1 ∙ required_alike o.0 arguments o.2 [])

pub argument_names_stay : (es us : List EntryOf) → map erase_entry es ≡ map erase_entry us → (lists : List (List ArgumentNames)) → AreArgumentNames es lists → AreArgumentNames us lists
argument_names_stay es us same lists are k names kept e there =
    let d = got erase_entry es us same k e there in
    names_of_each_stay d.0 e d.2 names (are k names kept d.0 d.1)

-- the locations of a directive
locations_erased : (d : TypeSystemOf Span) → locations_in d ≡ locations_in (place_type_system back (outline_of d))
locations_erased (schema extends description directives roots place) = refl
locations_erased (type_definition extends description name directives body place) = refl
locations_erased (directive_definition description name arguments repeatable locations place) = refl

pub locations_stay : (es us : List EntryOf) → map outline es ≡ map outline us → (lists : List (List DirectiveLocation)) → AreLocations es lists → AreLocations us lists
locations_stay es us same lists are = record {
  count = are.count ∙ lengths outline es us same;
  each = (λ k kept here e there location.
      let d = got outline es us same k e there in
      are.each k kept here d.0 d.1 location ∙ ap (λ ls. list_any (same_locations location) ls) (blind locations_in locations_erased d.0 e d.2));
}

-- the names of definitions, and their numbers
type_key_erased : (d : TypeSystemOf Span) → type_key d ≡ type_key (place_type_system back (outline_of d))
type_key_erased (schema extends description directives roots place) = refl
type_key_erased (type_definition true description name directives body place) = refl
type_key_erased (type_definition false description name directives body place) = refl
type_key_erased (directive_definition description name arguments repeatable locations place) = refl

directive_key_erased : (d : TypeSystemOf Span) → directive_key d ≡ directive_key (place_type_system back (outline_of d))
directive_key_erased (schema extends description directives roots place) = refl
directive_key_erased (type_definition extends description name directives body place) = refl
directive_key_erased (directive_definition description name arguments repeatable locations place) = refl

module _ (key : TypeSystemOf Span → Option Text) (erased : (d : TypeSystemOf Span) → key d ≡ key (place_type_system back (outline_of d))) where
  names_alike : (es us : List EntryOf) → map outline es ≡ map outline us → names_in key es ≡ names_in key us
  names_alike [] [] e = refl
  names_alike [] (u ∷ us) e = absurd (cc)
  names_alike (d ∷ es) [] e = absurd (cc)
  names_alike (d ∷ es) (u ∷ us) e =
      let first : outline d ≡ outline u = cc in
      let rest : map outline es ≡ map outline us = cc in
      ap (λ o. at_most_one o ++ names_in key es) (blind key erased d u first) ∙ ap (λ z. at_most_one (key u.definition) ++ z) (names_alike es us rest)

  numbers_alike : (k : ℕ) (es us : List EntryOf) → map outline es ≡ map outline us → numbers_in key k es ≡ numbers_in key k us
  numbers_alike k [] [] e = refl
  numbers_alike k [] (u ∷ us) e = absurd (cc)
  numbers_alike k (d ∷ es) [] e = absurd (cc)
  numbers_alike k (d ∷ es) (u ∷ us) e =
      let first : outline d ≡ outline u = cc in
      let rest : map outline es ≡ map outline us = cc in
      ap (λ o. at_most_one (option_map (λ text. k) o) ++ numbers_in key (k + 1) es) (blind key erased d u first)
      ∙ ap (λ z. at_most_one (option_map (λ text. k) (key u.definition)) ++ z) (numbers_alike (k + 1) es us rest)

  names_stay : (es us : List EntryOf) → map outline es ≡ map outline us → (table : Table ℕ) → AreNames key es table → AreNames key us table
  names_stay es us same table are = record { names = are.names ∙ names_alike es us same; numbers = are.numbers ∙ numbers_alike 0 es us same }

pub definitions_stay : (es us : List EntryOf) → map outline es ≡ map outline us → (types directives : Table ℕ) (kinds : List (Option TypeKind)) (number : ℕ)
    → AreDefinitions es types directives kinds number → AreDefinitions us types directives kinds number
definitions_stay es us same types directives kinds number are = record {
  types_are = names_stay type_key type_key_erased es us same types are.types_are;
  directives_are = names_stay directive_key directive_key_erased es us same directives are.directives_are;
  kinds_are = are.kinds_are ∙ weaken outline (λ e. kind_in e.definition) (blind kind_in kind_seen) es us same;
  schema_is = are.schema_is ∙ schema_numbers es us same;
}

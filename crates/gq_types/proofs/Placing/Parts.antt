-- The parts that are kept of types are those of type systems that are equal but for their places.
use Rattle.std.proofs.Common.{◌≡◌, ℕ, zero, suc, ◌+◌, List, [], ◌∷◌, ◌++◌, Option, Some, None, Box, map, flat_map, refl, ap, ◌∙◌, subst, Contains}
use Rattle.std.specs.Prelude.{fold, slice_get}
use Rattle.std.specs.Option.{option_map, option_map_or}
use Rattle.std.specs.declared.alloc.Global.{Global}
use Rattle.gq_text.specs.declared.place.Span.{Span}
use Rattle.gq_tree.specs.Plain.{BodyOf, place_name, place_input, place_field, place_enum_value, place_body, no_place}
use Rattle.gq_types.specs.declared.parts.Parts.{Parts}
use Rattle.gq_types.specs.declared.parts.Place.{Place}
use Rattle.gq_types.specs.declared.table.Table.{Table}
use Rattle.gq_types.specs.Entries.{EntryOf}
use Rattle.gq_types.specs.ErasedEntries.{erase_entry}
use Rattle.gq_types.specs.Outlines.{body_outline, outline}
use Rattle.gq_types.specs.Joined.{body_in, fields_in_body, inputs_in_body, values_in_body, members_in_body, interfaces_in_body}
use Rattle.gq_types.specs.Look.{joined_numbers}
use Rattle.gq_types.specs.LookUps.{parts_of_entry}
use Rattle.gq_types.specs.Helping.FieldTables.{AreFieldTables, IsKeptFor}
use Rattle.gq_types.specs.Helping.Tables.{AreParts, Lists, places_from, add_body, add_entry, no_parts, parts_at}
use Rattle.gq_types.proofs.Placing.Lists.{weaken, lengths}
use Rattle.gq_types.proofs.Gathered.{first, later}
use Rattle.gq_types.proofs.Placing.Entries.{body_alike, fields_alike}
use Rattle.gq_types.proofs.Placing.Outlines as outlined
use Rattle.gq_types.proofs.Placing.Outlines.{interfaces_alike, inputs_alike, members_alike, numbers_stay, outlines, values_alike}

-- what is at one place of lists that are equal where something is forgotten
pub got_alike : {A K : Type 0} (h : A → K) (xs ys : List A) → map h xs ≡ map h ys → (i : ℕ) → option_map h (slice_get xs i) ≡ option_map h (slice_get ys i)
got_alike h [] [] e i = refl
got_alike h [] (b ∷ ys) e i = absurd (cc)
got_alike h (a ∷ xs) [] e i = absurd (cc)
got_alike h (a ∷ xs) (b ∷ ys) e zero = let first : h a ≡ h b = cc in ap (λ z. Some z) first
got_alike h (a ∷ xs) (b ∷ ys) e (suc i) = let rest : map h xs ≡ map h ys = cc in got_alike h xs ys rest i

map_or_alike : {A K B C : Type 0} (h : A → K) (f : A → B) (see : B → C) → ((a b : A) → h a ≡ h b → see (f a) ≡ see (f b)) →
    (d : B) (o u : Option A) → option_map h o ≡ option_map h u → see (option_map_or f o d) ≡ see (option_map_or f u d)
map_or_alike h f see each d None None e = refl
map_or_alike h f see each d None (Some b) e = absurd (cc)
map_or_alike h f see each d (Some a) None e = absurd (cc)
map_or_alike h f see each d (Some a) (Some b) e = let same : h a ≡ h b = cc in each a b same

-- the places of as many parts
places_alike : {A K : Type 0} (h : A → K) (k i : ℕ) (xs ys : List A) → map h xs ≡ map h ys → places_from k i xs ≡ places_from k i ys
places_alike h k i [] [] e = refl
places_alike h k i [] (b ∷ ys) e = absurd (cc)
places_alike h k i (a ∷ xs) [] e = absurd (cc)
places_alike h k i (a ∷ xs) (b ∷ ys) e = let rest : map h xs ≡ map h ys = cc in ap (λ z. record { entry = k; index = i } ∷ z) (places_alike h k (i + 1) xs ys rest)

-- what is gathered, or added up, is the same where each is
gathered_same : {A B : Type 0} (f g : A → List B) (xs : List A) → ((a : A) → Contains xs a → f a ≡ g a) → flat_map f xs ≡ flat_map g xs
gathered_same f g [] each = refl
gathered_same f g (a ∷ xs) each = ap (λ z. z ++ flat_map f xs) (each a (first a a xs refl)) ∙ ap (λ z. g a ++ z) (gathered_same f g xs (λ b c. each b (later a b xs c)))

folded_same : {A B : Type 0} (f g : B → A → B) → ((b : B) (a : A) → f b a ≡ g b a) → (b : B) (xs : List A) → fold f b xs ≡ fold g b xs
folded_same f g each b [] = refl
folded_same f g each b (a ∷ xs) = ap (λ z. fold f z xs) (each b a) ∙ folded_same f g each (g b a) xs

-- the parts of one more entry
added_alike : (l : Lists) (k : ℕ) (b c : BodyOf Span) → body_outline (place_body no_place b) ≡ body_outline (place_body no_place c) → add_body l k b ≡ add_body l k c
added_alike l k b c e =
    let input_names : map (λ i. i.name.text) (inputs_in_body b) ≡ map (λ i. i.name.text) (inputs_in_body c) =
    weaken (place_input no_place) (λ i. i.name.text) (λ x y s. ap (λ z. z.name.text) s) (inputs_in_body b) (inputs_in_body c) (inputs_alike b c e) in
    let input_places : places_from k 0 (inputs_in_body b) ≡ places_from k 0 (inputs_in_body c) =
    places_alike (place_input no_place) k 0 (inputs_in_body b) (inputs_in_body c) (inputs_alike b c e) in
    let values : map (λ v. v.name.text) (values_in_body b) ≡ map (λ v. v.name.text) (values_in_body c) =
    weaken (place_enum_value no_place) (λ v. v.name.text) (λ x y s. ap (λ z. z.name.text) s) (values_in_body b) (values_in_body c) (values_alike b c e) in
    let members : map (λ m. m.text) (members_in_body b) ≡ map (λ m. m.text) (members_in_body c) =
    weaken (place_name no_place) (λ m. m.text) (λ x y s. ap (λ z. z.text) s) (members_in_body b) (members_in_body c) (members_alike b c e) in
    let interfaces : map (λ i. i.text) (interfaces_in_body b) ≡ map (λ i. i.text) (interfaces_in_body c) =
    weaken (place_name no_place) (λ i. i.text) (λ x y s. ap (λ z. z.text) s) (interfaces_in_body b) (interfaces_in_body c) (interfaces_alike b c e) in
    cc

module _ (es us : List EntryOf) (same : map outline es ≡ map outline us) where
  entry_added : (l : Lists) (k : ℕ) → add_entry es l k ≡ add_entry us l k
  entry_added l k = map_or_alike outline (λ e. add_body l k (body_in e.definition)) (λ z. z)
      (λ a b e. added_alike l k (body_in a.definition) (body_in b.definition) (outlined.body_alike a.definition b.definition e)) l (slice_get es k) (slice_get us k) (got_alike outline es us same k)

  pub parts_stay : (parts : List Parts) → AreParts es parts → AreParts us parts
  parts_stay parts are = record {
    count = are.count ∙ lengths outline es us same;
    each = λ i p at. are.each i p at ∙ folded_same (add_entry es) (add_entry us) entry_added no_parts (joined_numbers es i) ∙ ap (parts_at us) (numbers_stay es us same i);
  }

-- what is kept of fields, where those of the entries with these numbers are equal but for places
module _ (es us : List EntryOf) where
  abbrev pub IsSameAt : ℕ → Type 0
  IsSameAt k = option_map erase_entry (slice_get es k) ≡ option_map erase_entry (slice_get us k)

  fields_at : (k : ℕ) → IsSameAt k → map (place_field no_place) (parts_of_entry fields_in_body es k) ≡ map (place_field no_place) (parts_of_entry fields_in_body us k)
  fields_at k same = map_or_alike erase_entry (λ e. fields_in_body (body_in e.definition)) (map (place_field no_place))
      (λ a b e. fields_alike (body_in a.definition) (body_in b.definition) (body_alike a.definition b.definition e)) [] (slice_get es k) (slice_get us k) same

  names_stay : (k : ℕ) → IsSameAt k → map (λ f. f.name.text) (parts_of_entry fields_in_body es k) ≡ map (λ f. f.name.text) (parts_of_entry fields_in_body us k)
  names_stay k same = weaken (place_field no_place) (λ f. f.name.text) (λ x y s. ap (λ z. z.name.text) s) (parts_of_entry fields_in_body es k) (parts_of_entry fields_in_body us k) (fields_at k same)

  places_stay : (k : ℕ) → IsSameAt k → places_from k 0 (parts_of_entry fields_in_body es k) ≡ places_from k 0 (parts_of_entry fields_in_body us k)
  places_stay k same = places_alike (place_field no_place) k 0 (parts_of_entry fields_in_body es k) (parts_of_entry fields_in_body us k) (fields_at k same)

  pub kept_stays : (number : ℕ) (numbers : List ℕ) → ((k : ℕ) → Contains numbers k → IsSameAt k) → (table : Option (Box (Table Place) Global)) → IsKeptFor es number numbers table → IsKeptFor us number numbers table
  kept_stays number numbers same None is = is
  kept_stays number numbers same (Some table) is = record {
    names = is.names ∙ gathered_same (λ k. map (λ f. f.name.text) (parts_of_entry fields_in_body es k)) (λ k. map (λ f. f.name.text) (parts_of_entry fields_in_body us k)) numbers (λ k c. names_stay k (same k c));
    places = is.places ∙ gathered_same (λ k. places_from k 0 (parts_of_entry fields_in_body es k)) (λ k. places_from k 0 (parts_of_entry fields_in_body us k)) numbers (λ k c. places_stay k (same k c));
  }

pub field_tables_stay : (es us : List EntryOf) → map erase_entry es ≡ map erase_entry us → (tables : List (Option (Box (Table Place) Global))) → AreFieldTables es tables → AreFieldTables us tables
field_tables_stay es us same tables are = record {
  count = are.count ∙ lengths erase_entry es us same;
  each = λ i table at. subst (λ ns. IsKeptFor us i ns table) (numbers_stay es us (outlines es us same) i)
      (kept_stays es us i (joined_numbers es i) (λ k c. got_alike erase_entry es us same k) table (are.each i table at));
}

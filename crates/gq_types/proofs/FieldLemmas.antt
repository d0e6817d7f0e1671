-- What is found in the tables of fields, and in the fields of one entry, is what the definitions say.
use Rattle.std.proofs.Common.{◌≡◌, ℕ, ◌+◌, ◌<◌, List, [], ◌∷◌, ◌++◌, Option, Some, None, length, map, get_or, zero, suc, refl, sym, ◌∙◌, ap, arith, append-nil, append_assoc, IfSome}
use Rattle.std.specs.Prelude.{position, flat_map, option_and_then, slice_get, Box}
use Rattle.std.specs.declared.alloc.Global.{Global}
use Rattle.std.specs.Option.{option_map, option_map_or}
use Rattle.std.specs.Str.{bytes_eq}
use Rattle.std.proofs.lemmas.Option.{slice_get_read}
use Rattle.gq_text.specs.declared.place.Span.{Span}
use Rattle.gq_tree.specs.declared.type_system.FieldDefinition.{FieldDefinition}
use Rattle.gq_tree.specs.Plain.{FieldDefinitionOf}
use Rattle.gq_tree.specs.Views.{field_definition_view}
use Rattle.gq_types.specs.declared.parts.Place.{Place}
use Rattle.gq_types.specs.declared.table.Table.{Table}
use Rattle.gq_types.specs.Entries.{Text, EntryOf, Numbered}
use Rattle.gq_types.specs.Joined.{body_in, joined, fields_in_body, fields_of}
use Rattle.gq_types.specs.Look.{joined_numbers}
use Rattle.gq_types.specs.LookUps.{field_in, parts_of_entry}
use Rattle.gq_types.specs.Helping.FieldTables.{field_names_at, field_places_at, IsKeptFor, AreFieldTables}
use Rattle.gq_types.specs.Helping.Tables.{places_from, stands_at}
use Rattle.gq_types.specs.Helping.UnderName.{under_name}
use Rattle.gq_types.proofs.PartLookups.{Stand, joined_stand, all_names, part_found}
use Rattle.gq_types.proofs.PartsLemmas.{fields_seen, places_seen}
use Rattle.gq_types.proofs.Searches.{position_map, position_within}

-- what is gathered by the numbers of entries is gathered from the entries
over : {X : Type 0} (es : List EntryOf) (h : ℕ → List (FieldDefinitionOf Span) → List X) (ns : List Numbered) → Stand es ns
    → flat_map (λ k. h k (parts_of_entry fields_in_body es k)) (map (λ n. n.number) ns) ≡ flat_map (λ n. h n.number (fields_in_body (body_in n.entry.definition))) ns
over es h [] stand = refl
over es h (n ∷ ns) stand =
    ap (λ o. h n.number (option_map_or (λ e. fields_in_body (body_in e.definition)) o []) ++ flat_map (λ k. h k (parts_of_entry fields_in_body es k)) (map (λ n. n.number) ns)) stand.0
    ∙ ap (λ xs. h n.number (fields_in_body (body_in n.entry.definition)) ++ xs) (over es h ns stand.1)

module _ (es : List EntryOf) (k : ℕ) (text : Text) where
  names_are : field_names_at es (joined_numbers es k) ≡ map (λ f. f.it.name.text) (fields_of es k)
  names_are = over es (λ n fs. map (λ f. f.name.text) fs) (joined es k) (joined_stand es k) ∙ all_names fields_in_body (λ f. f.name.text) (joined es k)

  places_are : field_places_at es (joined_numbers es k) ≡ flat_map (λ n. places_from n.number 0 (fields_in_body (body_in n.entry.definition))) (joined es k)
  places_are = over es (λ n fs. places_from n 0 fs) (joined es k) (joined_stand es k)

  -- the field that a table of a type with its extensions has under a name
  in_joined : option_and_then (stands_at fields_in_body es) (under_name (field_names_at es (joined_numbers es k)) (field_places_at es (joined_numbers es k)) text) ≡ field_in es k text
  in_joined =
      ap (λ ts. option_and_then (stands_at fields_in_body es) (under_name ts (field_places_at es (joined_numbers es k)) text)) names_are
      ∙ ap (λ ps. option_and_then (stands_at fields_in_body es) (under_name (map (λ f. f.it.name.text) (fields_of es k)) ps text)) places_are
      ∙ sym (part_found fields_in_body (λ f. f.name.text) es k text)

  pub in_table : (table : Table Place) → table.names ≡ field_names_at es (joined_numbers es k) → table.values.items ≡ field_places_at es (joined_numbers es k)
      → option_and_then (stands_at fields_in_body es) (under_name table.names table.values.items text) ≡ field_in es k text
  in_table table names places =
      ap (λ ts. option_and_then (stands_at fields_in_body es) (under_name ts table.values.items text)) names
      ∙ ap (λ ps. option_and_then (stands_at fields_in_body es) (under_name (field_names_at es (joined_numbers es k)) ps text)) places ∙ in_joined

  pub in_entry : joined_numbers es k ≡ k ∷ [] → option_and_then (stands_at fields_in_body es) (under_name (field_names_at es (k ∷ [])) (field_places_at es (k ∷ [])) text) ≡ field_in es k text
  in_entry alone =
      ap (λ ns. option_and_then (stands_at fields_in_body es) (under_name (field_names_at es ns) (field_places_at es ns) text)) (sym alone) ∙ in_joined

-- what is kept for a number is the table of its entry
pub kept_at : (es : List EntryOf) (tables : List (Option (Box (Table Place) Global))) (k : ℕ) (one : Option (Box (Table Place) Global)) → AreFieldTables es tables → k < length tables → one ≡ get_or tables k one
    → IsKeptFor es k (joined_numbers es k) one
kept_at es tables k one are within is = are.each k one (slice_get_read tables (length tables) k one refl within is)

-- the place of a part by its number
placed_from : {A : Type 0} (k i : ℕ) (xs : List A) (j : ℕ) → j < length xs → slice_get (places_from k i xs) j ≡ Some record { entry = k; index = i + j }
placed_from k i [] j within = absurd (omega (arith, within))
placed_from k i (x ∷ xs) zero within = let e : i ≡ i + 0 = omega arith in ap (λ n. Some record { entry = k; index = n }) e
placed_from k i (x ∷ xs) (suc j) within =
    let e : i + 1 + j ≡ i + suc j = omega arith in
    placed_from k (i + 1) xs j (omega (arith, within)) ∙ ap (λ n. Some record { entry = k; index = n }) e

places_at : {A : Type 0} (k : ℕ) (xs : List A) (o : Option ℕ) → IfSome o (λ i. i < length xs)
    → option_and_then (λ i. slice_get (places_from k 0 xs) i) o ≡ option_map (λ i. record { entry = k; index = i }) o
places_at k xs None within = refl
places_at k xs (Some i) within = let e : 0 + i ≡ i = omega arith in placed_from k 0 xs i within ∙ ap (λ n. Some record { entry = k; index = n }) e

-- the first field of a name among those of one entry
module _ (es : List EntryOf) (k : ℕ) (text : Text) (fs : List FieldDefinition) (those : map field_definition_view fs ≡ parts_of_entry fields_in_body es k) where
  one_names : field_names_at es (k ∷ []) ≡ map (λ f. f.name.text) fs
  one_names = append-nil (map (λ f. f.name.text) (parts_of_entry fields_in_body es k)) ∙ ap (map (λ f. f.name.text)) (sym those) ∙ fields_seen fs

  one_places : field_places_at es (k ∷ []) ≡ places_from k 0 fs
  one_places = append-nil (places_from k 0 (parts_of_entry fields_in_body es k)) ∙ ap (places_from k 0) (sym those) ∙ places_seen field_definition_view k 0 fs

  pub first_of_entry : option_map (λ i. record { entry = k; index = i }) (position (λ f. bytes_eq text f.name.text) fs) ≡ under_name (field_names_at es (k ∷ [])) (field_places_at es (k ∷ [])) text
  first_of_entry =
      sym (places_at k fs (position (λ f. bytes_eq text f.name.text) fs) (position_within (λ f. bytes_eq text f.name.text) fs))
      ∙ ap (option_and_then (λ i. slice_get (places_from k 0 fs) i)) (sym (position_map (bytes_eq text) (λ f. f.name.text) fs))
      ∙ ap (λ ts. under_name ts (places_from k 0 fs) text) (sym one_names) ∙ ap (λ ps. under_name (field_names_at es (k ∷ [])) ps text) (sym one_places)

-- one entry more in a table
module _ (es : List EntryOf) (x : ℕ) (rest : List ℕ) (fs : List FieldDefinition) (those : map field_definition_view fs ≡ parts_of_entry fields_in_body es x) where
  pub names_put : (old new all : List Text) → new ≡ old ++ map (λ f. f.name.text) fs → old ++ field_names_at es (x ∷ rest) ≡ all → new ++ field_names_at es rest ≡ all
  names_put old new all is before =
      ap (λ ts. ts ++ field_names_at es rest) is ∙ append_assoc old (map (λ f. f.name.text) fs) (field_names_at es rest)
      ∙ ap (λ ts. old ++ (ts ++ field_names_at es rest)) (sym (fields_seen fs) ∙ ap (map (λ f. f.name.text)) those) ∙ before

  pub places_put : (old new all : List Place) → new ≡ old ++ places_from x 0 fs → old ++ field_places_at es (x ∷ rest) ≡ all → new ++ field_places_at es rest ≡ all
  places_put old new all is before =
      ap (λ ps. ps ++ field_places_at es rest) is ∙ append_assoc old (places_from x 0 fs) (field_places_at es rest)
      ∙ ap (λ ps. old ++ (ps ++ field_places_at es rest)) (sym (places_seen field_definition_view x 0 fs) ∙ ap (places_from x 0) those) ∙ before

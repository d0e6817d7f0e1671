-- What is kept of entries, one entry after the other.
use Rattle.std.proofs.Common.{◌≡◌, ℕ, ◌+◌, ◌<◌, List, [], ◌∷◌, ◌++◌, Option, Some, length, get_or, map, sym, ap, subst, ◌∙◌, Box, Vec}
use Rattle.std.specs.Prelude.{slice_get}
use Rattle.std.specs.Arc.{arc_value}
use Rattle.std.specs.declared.alloc.Global.{Global}
use Rattle.std.proofs.lemmas.List.{length-map, length_push}
use Rattle.gq_tree.specs.declared.type_system.DirectiveLocation.{DirectiveLocation}
use Rattle.gq_tree.specs.declared.types.TypeRef.{TypeRef}
use Rattle.gq_tree.specs.Views.{type_system_view, type_view}
use Rattle.gq_names.specs.UnderNames.{UnderNames, items_under}
use Rattle.gq_types.specs.declared.argument_names.ArgumentNames.{ArgumentNames}
use Rattle.gq_types.specs.declared.entry.Entry.{Entry}
use Rattle.gq_types.specs.declared.parts.Parts.{Parts}
use Rattle.gq_types.specs.declared.parts.Place.{Place}
use Rattle.gq_types.specs.declared.roots.RootNames.{RootNames}
use Rattle.gq_types.specs.declared.table.Table.{Table}
use Rattle.gq_types.specs.declared.tables.EntryTables.{EntryTables}
use Rattle.gq_types.specs.declared.uses.Uses.{Uses}
use Rattle.gq_types.specs.Declarers.{declaring_from}
use Rattle.gq_types.specs.Directives.{locations_in}
use Rattle.gq_types.specs.Entries.{Text, EntryOf, entry_view, entries_view}
use Rattle.gq_types.specs.Helping.FieldTables.{IsKeptFor, AreFieldTables}
use Rattle.gq_types.specs.Helping.Index.{argument_lists, AreNamesOfEach, AreArgumentNames, AreLocationsOf, AreTables, AreTablesBelow, AreRoots, AreUses, IsIndex}
use Rattle.gq_types.specs.Helping.RequiredNames.{required_after, inputs_among}
use Rattle.gq_types.specs.Helping.Tables.{lists_of, lists_in, parts_at, EachAt, AreJoined, AreParts}
use Rattle.gq_types.specs.Joined.{inputs_of, schema_number}
use Rattle.gq_types.specs.Look.{joined_numbers}
use Rattle.gq_types.specs.Typename.{typename_type}
use Rattle.gq_types.proofs.ArgumentNameLemmas.{entry_pushed}
use Rattle.gq_types.proofs.IndexLemmas.{locations_pushed}
use Rattle.gq_types.proofs.PartsLemmas.{each_push}
use Rattle.gq_types.proofs.RequiredLemmas.{required_of}

-- no entries, of which nothing is kept
each_of_none : {A : Type 0} (P : ℕ → A → Type 0) (xs : List A) → xs ≡ [] → EachAt P xs
each_of_none P [] is i x at = absurd (cc)
each_of_none P (y ∷ ys) is i x at = absurd (cc)

pub none_kept : (es : List EntryOf) (tables : EntryTables) → tables.fields.items ≡ [] → tables.parts.items ≡ [] → tables.required.items ≡ [] → tables.arguments.items ≡ []
    → tables.locations.items ≡ [] → AreTablesBelow es 0 tables
none_kept es tables fields parts required arguments locations = record {
  fields_count = ap length fields;
  fields_are = each_of_none _ tables.fields.items fields;
  parts_count = ap length parts;
  parts_are = each_of_none _ tables.parts.items parts;
  required_count = ap length required;
  required_are = each_of_none _ tables.required.items required;
  arguments_count = ap length arguments;
  arguments_are = each_of_none _ (lists_of tables.arguments.items) (ap lists_of arguments);
  locations_count = ap length locations;
  locations_are = each_of_none _ (lists_of tables.locations.items) (ap lists_of locations);
}

-- all entries
pub all_kept : (entries : List Entry) (number : ℕ) (tables : EntryTables) → number ≡ length entries → AreTablesBelow (entries_view entries) number tables
    → AreTables (entries_view entries) tables
all_kept entries number tables is below =
    let count : number ≡ length (entries_view entries) = is ∙ sym (length-map entries entry_view) in
    record {
      fields_are = record { count = below.fields_count ∙ count; each = below.fields_are };
      parts_are = record { count = below.parts_count ∙ count; each = below.parts_are };
      required_are = record { count = below.required_count ∙ count; each = below.required_are };
      arguments_count = below.arguments_count ∙ count;
      arguments_are = below.arguments_are;
      locations_are = record { count = length-map tables.locations.items (λ v. v.items) ∙ below.locations_count ∙ count; each = below.locations_are };
    }

-- one more item, where so many stand
grown : {A : Type 0} (old new : List A) (x : A) (number : ℕ) → new ≡ old ++ x ∷ [] → length old ≡ number → length new ≡ number + 1
grown old new x number put count = ap length put ∙ length_push old x ∙ ap (λ n. n + 1) count

each_grown : {A : Type 0} (P : ℕ → A → Type 0) (old new : List A) (x : A) (number : ℕ) → new ≡ old ++ x ∷ [] → length old ≡ number → EachAt P old → P number x → EachAt P new
each_grown P old new x number put count each here = subst (EachAt P) (sym put) (each_push P old x each (subst (λ n. P n x) (sym count) here))

module _ (entries : List Entry) (number : ℕ) (e : Entry) (within : number < length entries) (at : e ≡ get_or entries number e)
    (numbers : List ℕ) (joined : numbers ≡ joined_numbers (entries_view entries) number) where
  -- one entry more
  pub one_kept : (old new : EntryTables) (table : Option (Box (Table Place) Global)) (parts : Parts) (required : List Text) (names : Vec ArgumentNames Global) (kept : Vec DirectiveLocation Global)
      → new.fields.items ≡ old.fields.items ++ table ∷ [] → new.parts.items ≡ old.parts.items ++ parts ∷ [] → new.required.items ≡ old.required.items ++ required ∷ []
      → new.arguments.items ≡ old.arguments.items ++ names ∷ [] → new.locations.items ≡ old.locations.items ++ kept ∷ []
      → IsKeptFor (entries_view entries) number numbers table → lists_in parts ≡ parts_at (entries_view entries) numbers
      → required ≡ required_after [] (inputs_among (entries_view entries) numbers)
      → AreNamesOfEach (argument_lists (type_system_view (arc_value e.definition))) names.items → AreLocationsOf (locations_in (type_system_view (arc_value e.definition))) kept.items
      → AreTablesBelow (entries_view entries) number old → AreTablesBelow (entries_view entries) (number + 1) new
  one_kept old new table parts required names kept put_table put_parts put_required put_names put_kept is_table are_parts are_required are_names are_kept below =
      let es = entries_view entries in
      record {
        fields_count = grown old.fields.items new.fields.items table number put_table below.fields_count;
        fields_are = each_grown (λ i table. IsKeptFor es i (joined_numbers es i) table) old.fields.items new.fields.items table number put_table below.fields_count below.fields_are
            (subst (λ ns. IsKeptFor es number ns table) joined is_table);
        parts_count = grown old.parts.items new.parts.items parts number put_parts below.parts_count;
        parts_are = each_grown (λ i p. lists_in p ≡ parts_at es (joined_numbers es i)) old.parts.items new.parts.items parts number put_parts below.parts_count below.parts_are
            (are_parts ∙ ap (λ ns. parts_at es ns) joined);
        required_count = grown old.required.items new.required.items required number put_required below.required_count;
        required_are = each_grown (λ i names. names ≡ required_after [] (map (λ i. i.it) (inputs_of es i))) old.required.items new.required.items required number put_required
            below.required_count below.required_are (are_required ∙ ap (λ ns. required_after [] (inputs_among es ns)) joined ∙ required_of es number);
        arguments_count = grown old.arguments.items new.arguments.items names number put_names below.arguments_count;
        arguments_are = subst (λ xs. AreArgumentNames es (lists_of xs)) (sym put_names)
            (entry_pushed entries e number old.arguments.items names within at below.arguments_count below.arguments_are are_names);
        locations_count = grown old.locations.items new.locations.items kept number put_kept below.locations_count;
        locations_are = subst (λ xs. EachAt (λ k kept. (e : EntryOf) → slice_get es k ≡ Some e → AreLocationsOf (locations_in e.definition) kept) (lists_of xs)) (sym put_kept)
            (locations_pushed entries e number old.locations.items kept within at below.locations_count below.locations_are are_kept);
      }

-- the index that is made of these
pub index_made : {Z : Type 0} (es : List EntryOf) (joined : List (Vec ℕ Z)) (tables : EntryTables) (roots : RootNames) (declarers : UnderNames ℕ) (of_typename : TypeRef)
    (fields : Vec (Option (Box (Table Place) Global)) Global) (parts : Vec Parts Global) (uses : Uses) (schema : ℕ) (numbers : List ℕ)
    → fields ≡ tables.fields → parts ≡ tables.parts → uses ≡ record { required = tables.required; arguments = tables.arguments; locations = tables.locations; roots = roots }
    → AreJoined es (lists_of joined) → AreTables es tables → ((text : Text) → items_under declarers text ≡ declaring_from 0 (map (λ p. p.interfaces) tables.parts.items) text)
    → schema ≡ schema_number es → numbers ≡ get_or (lists_of joined) schema [] → AreRoots es numbers roots → type_view of_typename ≡ typename_type
    → IsIndex es joined fields.items parts.items declarers uses of_typename
index_made es joined tables roots declarers of_typename fields parts uses schema numbers same_fields same_parts same_uses is_joined are lead is_schema is_numbers are_roots is_typename = record {
  joined_are = is_joined;
  fields_are = subst (λ v. AreFieldTables es v.items) (sym same_fields) are.fields_are;
  parts_are = subst (λ v. AreParts es v.items) (sym same_parts) are.parts_are;
  declarers_are = subst (λ v. (text : Text) → items_under declarers text ≡ declaring_from 0 (map (λ p. p.interfaces) v.items) text) (sym same_parts) lead;
  uses_are = subst (AreUses es) (sym same_uses) (record {
    required_are = are.required_are;
    arguments_count = are.arguments_count;
    arguments_are = are.arguments_are;
    locations_are = are.locations_are;
    roots_are = subst (λ ns. AreRoots es ns roots) (is_numbers ∙ is_joined schema ∙ ap (λ n. joined_numbers es n) is_schema) are_roots;
  });
  typename_type_is = is_typename;
}

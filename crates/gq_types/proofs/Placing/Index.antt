-- What is kept of a type system stays where its definitions are exchanged for some that are equal but for their places.
use Rattle.std.proofs.Common.{◌≡◌, ℕ, Bool, List, Option, Some, None, Box, Vec, length, map, refl, ◌∙◌}
use Rattle.std.specs.Coded.{Coded-set, code_by, coded×, coded_bool, coded_list, coded_option, coded_ℕ}
use Rattle.std.specs.declared.alloc.Global.{Global}
use Rattle.std.proofs.Math.Logic.{∥∥₁_elim}
use mathlib.Core.Logic.{∥∥₁_map}
use Rattle.gq_tree.specs.declared.types.TypeRef.{TypeRef}
use Rattle.gq_types.specs.declared.argument_names.ArgumentNames.{ArgumentNames}
use Rattle.gq_types.specs.declared.entry.TypeKind.{TypeKind}
use Rattle.gq_types.specs.declared.parts.Parts.{Parts}
use Rattle.gq_types.specs.declared.parts.Place.{Place}
use Rattle.gq_types.specs.declared.table.Table.{Table}
use Rattle.gq_types.specs.declared.uses.Uses.{Uses}
use Rattle.gq_types.specs.contracts.entry.TypeKind as kind
use Rattle.gq_types.specs.contracts.parts.Place as place
use Rattle.gq_types.specs.Entries.{Text, EntryOf}
use Rattle.gq_types.specs.ErasedEntries.{erase_entry}
use Rattle.gq_types.specs.Outlines.{outline}
use Rattle.gq_types.specs.Helping.FieldTables.{AreFieldTables, IsKeptFor}
use Rattle.gq_types.specs.Helping.Index.{AreArgumentNames, AreUses, IsIndex}
use Rattle.gq_types.specs.Helping.Tables.{AreDefinitions, AreParts, Lists, lists_of}
use Rattle.gq_names.specs.declared.list.NameList.{NameList}
use Rattle.gq_names.specs.UnderNames.{UnderNames}
use Rattle.gq_types.proofs.Placing.Names.{argument_names_stay, locations_stay, definitions_stay}
use Rattle.gq_types.proofs.Placing.Lists.{lengths}
use Rattle.gq_types.proofs.Placing.Outlines.{numbers_stay, outlines}
use Rattle.gq_types.proofs.Placing.Parts.{parts_stay, field_tables_stay}
use Rattle.gq_types.proofs.Placing.Required.{required_stays}
use Rattle.gq_types.proofs.Placing.Roots.{roots_stay}

-- what is kept says one thing in one way
texts_set : IsSet (List Text)
texts_set = Coded-set (coded_list (coded_list coded_ℕ))

names_set : IsSet NameList
names_set = texts_set

numbers_set : IsSet (List ℕ)
numbers_set = Coded-set (coded_list coded_ℕ)

number_set : IsSet ℕ
number_set = Coded-set coded_ℕ

places_set : IsSet (List Place)
places_set = Coded-set (coded_list place.the_row.coded)

kinds_set : IsSet (List (Option TypeKind))
kinds_set = Coded-set (coded_list (coded_option kind.the_row.coded))

lists_set : IsSet Lists
lists_set = Coded-set (code_by (List Text × (List Place × (List Text × (List Text × List Text))))
    (coded× (coded_list (coded_list coded_ℕ)) (coded× (coded_list place.the_row.coded) (coded× (coded_list (coded_list coded_ℕ)) (coded× (coded_list (coded_list coded_ℕ)) (coded_list (coded_list coded_ℕ))))))
    (λ l. (l.input_names, (l.input_places, (l.values, (l.members, l.interfaces)))))
    (λ t. record { input_names = t.0; input_places = t.1.0; values = t.1.1.0; members = t.1.1.1.0; interfaces = t.1.1.1.1 })
    (λ l. refl))

root_set : IsSet (Option Text)
root_set = Coded-set (coded_option (coded_list coded_ℕ))

truth_set : IsSet Bool
truth_set = Coded-set coded_bool

definitions_prop : (es : List EntryOf) (types directives : Table ℕ) (kinds : List (Option TypeKind)) (number : ℕ) → IsProp (AreDefinitions es types directives kinds number)
definitions_prop es types directives kinds number = hlevel (names_set, numbers_set, kinds_set, number_set)

pub kept_prop : (es : List EntryOf) (number : ℕ) (numbers : List ℕ) (table : Option (Box (Table Place) Global)) → IsProp (IsKeptFor es number numbers table)
kept_prop es number numbers None = hlevel numbers_set
kept_prop es number numbers (Some table) = hlevel (names_set, places_set)

pub field_tables_prop : (es : List EntryOf) (tables : List (Option (Box (Table Place) Global))) → IsProp (AreFieldTables es tables)
field_tables_prop es tables = hlevel (number_set, kept_prop)

parts_prop : (es : List EntryOf) (parts : List Parts) → IsProp (AreParts es parts)
parts_prop es parts = hlevel (number_set, lists_set)

uses_prop : (es : List EntryOf) (uses : Uses) → IsProp (AreUses es uses)
uses_prop es uses = hlevel (number_set, names_set, texts_set, truth_set, root_set)

pub arguments_prop : (es : List EntryOf) (lists : List (List ArgumentNames)) → IsProp (AreArgumentNames es lists)
arguments_prop es lists = hlevel (names_set)

module _ (es us : List EntryOf) (same : ∥ map outline es ≡ map outline us ∥₁) where
  pub definitions_kept : (types directives : Table ℕ) (kinds : List (Option TypeKind)) (number : ℕ) → AreDefinitions es types directives kinds number → AreDefinitions us types directives kinds number
  definitions_kept types directives kinds number are =
      ∥∥₁_elim same (definitions_prop us types directives kinds number) (λ e. definitions_stay es us e types directives kinds number are)

  pub count_kept : length es ≡ length us
  count_kept = ∥∥₁_elim same (number_set (length es) (length us)) (λ e. lengths outline es us e)

  -- with other tables of fields, and other names of arguments
  pub with_fields : {Z : Type 0} (joined : List (Vec ℕ Z)) (fields kept : List (Option (Box (Table Place) Global))) (parts : List Parts) (declarers : UnderNames ℕ) (uses used : Uses) (of_typename : TypeRef)
      → AreFieldTables us kept → used.required ≡ uses.required → used.locations ≡ uses.locations → used.roots ≡ uses.roots → length used.arguments.items ≡ length uses.arguments.items → AreArgumentNames us (lists_of used.arguments.items)
      → IsIndex es joined fields parts declarers uses of_typename → IsIndex us joined kept parts declarers used of_typename
  with_fields joined fields kept parts declarers uses used of_typename fields_are required locations roots count arguments_are are = record {
    joined_are = λ number. ∥∥₁_elim same (numbers_set _ _) (λ e. are.joined_are number ∙ numbers_stay es us e number);
    fields_are = fields_are;
    parts_are = ∥∥₁_elim same (parts_prop us parts) (λ e. parts_stay es us e parts are.parts_are);
    declarers_are = are.declarers_are;
    uses_are = ∥∥₁_elim same (uses_prop us used) (λ e. record {
      required_are = rw required (required_stays es us e uses.required.items are.uses_are.required_are);
      arguments_count = count ∙ are.uses_are.arguments_count ∙ count_kept;
      arguments_are = arguments_are;
      locations_are = rw locations (locations_stay es us e (lists_of uses.locations.items) are.uses_are.locations_are);
      roots_are = rw roots (roots_stay es us e uses.roots are.uses_are.roots_are);
    });
    typename_type_is = are.typename_type_is;
  }

pub outlines_kept : (es us : List EntryOf) → ∥ map erase_entry es ≡ map erase_entry us ∥₁ → ∥ map outline es ≡ map outline us ∥₁
outlines_kept es us same = ∥∥₁_map same (λ e. outlines es us e)

-- where places alone are others
pub index_kept : (es us : List EntryOf) → ∥ map erase_entry es ≡ map erase_entry us ∥₁ →
    {Z : Type 0} (joined : List (Vec ℕ Z)) (fields : List (Option (Box (Table Place) Global))) (parts : List Parts) (declarers : UnderNames ℕ) (uses : Uses) (of_typename : TypeRef)
    → IsIndex es joined fields parts declarers uses of_typename → IsIndex us joined fields parts declarers uses of_typename
index_kept es us same joined fields parts declarers uses of_typename are =
    with_fields es us (outlines_kept es us same) joined fields fields parts declarers uses uses of_typename
    (∥∥₁_elim same (field_tables_prop us fields) (λ e. field_tables_stay es us e fields are.fields_are)) refl refl refl refl
    (∥∥₁_elim same (arguments_prop us (lists_of uses.arguments.items)) (λ e. argument_names_stay es us e (lists_of uses.arguments.items) are.uses_are.arguments_are)) are

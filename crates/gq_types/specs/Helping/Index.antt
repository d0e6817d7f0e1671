-- What a type system keeps of its entries. No contract of a public call speaks of it.
use Rattle.std.specs.Prelude.{◌≡◌, ℕ, List, [], ◌∷◌, Option, Some, length, map, option_and_then, slice_get, Box, Vec}
use Rattle.std.specs.List.{list_any}
use Rattle.std.specs.declared.alloc.Global.{Global}
use Rattle.gq_text.specs.declared.place.Span.{Span}
use Rattle.gq_tree.specs.declared.tree.OperationKind.{OperationKind}
use Rattle.gq_tree.specs.declared.tree.OperationKind.TheVariants as kind
use Rattle.gq_tree.specs.declared.type_system.DirectiveLocation.{DirectiveLocation}
use Rattle.gq_tree.specs.Plain.{InputOf, TypeSystemOf, schema, type_definition, directive_definition}
use Rattle.gq_tree.specs.Same.{same_locations}
use Rattle.gq_tree.specs.declared.types.TypeRef.{TypeRef}
use Rattle.gq_tree.specs.Views.{type_view}
use Rattle.gq_types.specs.declared.argument_names.ArgumentNames.{ArgumentNames}
use Rattle.gq_types.specs.declared.parts.Parts.{Parts}
use Rattle.gq_types.specs.declared.parts.Place.{Place}
use Rattle.gq_types.specs.declared.roots.RootNames.{RootNames}
use Rattle.gq_types.specs.declared.table.Table.{Table}
use Rattle.gq_types.specs.declared.tables.EntryTables.{EntryTables}
use Rattle.gq_types.specs.declared.uses.Uses.{Uses}
use Rattle.gq_types.specs.Directives.{locations_in}
use Rattle.gq_types.specs.Entries.{Text, EntryOf}
use Rattle.gq_types.specs.Typename.{typename_type}
use Rattle.gq_names.specs.UnderNames.{UnderNames, items_under}
use Rattle.gq_types.specs.Declarers.{declaring_from}
use Rattle.gq_types.specs.Joined.{fields_in_body, inputs_of, schema_number}
use Rattle.gq_types.specs.Look.{joined_numbers}
use Rattle.gq_types.specs.Helping.FieldTables.{IsKeptFor, AreFieldTables}
use Rattle.gq_types.specs.Helping.RequiredNames.{required_after, AreRequired, AreNamesOf}
use Rattle.gq_types.specs.Helping.Tables.{lists_of, lists_in, parts_at, AreJoined, AreParts, EachAt, first_root_at}

-- the arguments of each field that it defines, or of the directive
abbrev pub argument_lists : TypeSystemOf Span → List (List (InputOf Span))
argument_lists (schema extends description directives roots place) = []
argument_lists (type_definition extends description name directives body place) = map (λ f. f.arguments) (fields_in_body body)
argument_lists (directive_definition description name arguments repeatable locations place) = arguments ∷ []

-- those at a place
abbrev pub arguments_at : List EntryOf → Place → Option (List (InputOf Span))
arguments_at es place = option_and_then (λ e. slice_get (argument_lists e.definition) place.index) (slice_get es place.entry)

-- names that are kept are those of the arguments at their place
abbrev pub AreNamesOfEach : List (List (InputOf Span)) → List ArgumentNames → Type 0
AreNamesOfEach lists names = EachAt (λ i n. (arguments : List (InputOf Span)) → slice_get lists i ≡ Some arguments → AreNamesOf arguments n) names

abbrev pub AreArgumentNames : List EntryOf → List (List ArgumentNames) → Type 0
AreArgumentNames es lists = EachAt (λ k names. (e : EntryOf) → slice_get es k ≡ Some e → AreNamesOfEach (argument_lists e.definition) names) lists

-- locations that are kept are those of the directive, each at least once
abbrev pub AreLocationsOf : List DirectiveLocation → List DirectiveLocation → Type 0
AreLocationsOf all kept = (location : DirectiveLocation) → list_any (same_locations location) kept ≡ list_any (same_locations location) all

pub record AreLocations (es : List EntryOf) (lists : List (List DirectiveLocation)) : Type 0 where
  pub count : length lists ≡ length es
  pub each : EachAt (λ k kept. (e : EntryOf) → slice_get es k ≡ Some e → AreLocationsOf (locations_in e.definition) kept) lists

-- what is kept under a kind of operation
abbrev pub root_name : RootNames → OperationKind → Option Text
root_name names kind.Query = names.query
root_name names kind.Mutation = names.mutation
root_name names kind.Subscription = names.subscription

abbrev pub AreRoots : List EntryOf → List ℕ → RootNames → Type 0
AreRoots es numbers names = (kind : OperationKind) → root_name names kind ≡ first_root_at es kind numbers

-- what is kept of each entry, in five lists
pub record AreTables (es : List EntryOf) (tables : EntryTables) : Type 0 where
  pub fields_are : AreFieldTables es tables.fields.items
  pub parts_are : AreParts es tables.parts.items
  pub required_are : AreRequired es tables.required.items
  pub arguments_count : length tables.arguments.items ≡ length es
  pub arguments_are : AreArgumentNames es (lists_of tables.arguments.items)
  pub locations_are : AreLocations es (lists_of tables.locations.items)

-- what is kept so far, of the entries below a number
pub record AreTablesBelow (es : List EntryOf) (number : ℕ) (tables : EntryTables) : Type 0 where
  pub fields_count : length tables.fields.items ≡ number
  pub fields_are : EachAt (λ i table. IsKeptFor es i (joined_numbers es i) table) tables.fields.items
  pub parts_count : length tables.parts.items ≡ number
  pub parts_are : EachAt (λ i p. lists_in p ≡ parts_at es (joined_numbers es i)) tables.parts.items
  pub required_count : length tables.required.items ≡ number
  pub required_are : EachAt (λ i names. names ≡ required_after [] (map (λ i. i.it) (inputs_of es i))) tables.required.items
  pub arguments_count : length tables.arguments.items ≡ number
  pub arguments_are : AreArgumentNames es (lists_of tables.arguments.items)
  pub locations_count : length tables.locations.items ≡ number
  pub locations_are : EachAt (λ k kept. (e : EntryOf) → slice_get es k ≡ Some e → AreLocationsOf (locations_in e.definition) kept) (lists_of tables.locations.items)

-- what is kept for the uses of definitions
pub record AreUses (es : List EntryOf) (uses : Uses) : Type 0 where
  pub required_are : AreRequired es uses.required.items
  pub arguments_count : length uses.arguments.items ≡ length es
  pub arguments_are : AreArgumentNames es (lists_of uses.arguments.items)
  pub locations_are : AreLocations es (lists_of uses.locations.items)
  pub roots_are : AreRoots es (joined_numbers es (schema_number es)) uses.roots

pub record IsIndex {Z : Type 0} (es : List EntryOf) (joined : List (Vec ℕ Z)) (fields : List (Option (Box (Table Place) Global))) (parts : List Parts) (declarers : UnderNames ℕ) (uses : Uses) (of_typename : TypeRef) : Type 0 where
  pub joined_are : AreJoined es (lists_of joined)
  pub fields_are : AreFieldTables es fields
  pub parts_are : AreParts es parts
  pub declarers_are : (text : Text) → items_under declarers text ≡ declaring_from 0 (map (λ p. p.interfaces) parts) text
  pub uses_are : AreUses es uses
  pub typename_type_is : type_view of_typename ≡ typename_type

-- what is kept of the fields of the entry with that number: the table of them, and the names of their arguments
pub record AreFieldsAt (es : List EntryOf) (number : ℕ) (table : Option (Box (Table Place) Global)) (arguments : List ArgumentNames) : Type 0 where
  pub table_is : IsKeptFor es number (joined_numbers es number) table
  pub arguments_are : (e : EntryOf) → slice_get es number ≡ Some e → AreNamesOfEach (argument_lists e.definition) arguments

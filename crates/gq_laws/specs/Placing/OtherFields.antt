-- Type systems that are equal but for their places and for fields of some names, and operations and fragments that select no field of these names.
use Rattle.std.specs.Prelude.{◌≡◌, Bool, false, List, None, map, filter, not, Contains}
use Rattle.std.specs.List.{list_any}
use Rattle.std.specs.Option.{option_map}
use Rattle.std.specs.Str.{bytes_eq}
use Rattle.gq_text.specs.declared.place.Span.{Span}
use Rattle.gq_tree.specs.declared.tree.OperationKind.{OperationKind}
use Rattle.gq_tree.specs.Forest.{labels}
use Rattle.gq_tree.specs.Plain.{FieldDefinitionOf, BodyOf, scalar_type, object_type, interface_type, union_type, enum_type, input_type, TypeSystemOf, schema, type_definition, directive_definition}
use Rattle.gq_tree.specs.Plain.{Head, field, spread, inline, Sels, Def, operation, fragment, type_system, place_field, place_input, place_type_system, no_place}
use Rattle.gq_fault.specs.declared.fault.Fault.{Fault}
use Rattle.gq_types.specs.Entries.{Text, EntryOf}
use Rattle.gq_types.specs.Joined.{kind_named}
use Rattle.gq_types.specs.Names.{field_named, input_named, has_value, has_member, declares, directive_named}
use Rattle.gq_types.specs.Roots.{root_of}
use Rattle.gq_document.specs.Definitions.{OperationOf, FragmentOf}
use Rattle.gq_document.specs.Executable.{ExecutableOf}

-- one of those names
abbrev pub is_one_of : List Text → Text → Bool
is_one_of names text = list_any (bytes_eq text) names

-- the fields that have none of those names
abbrev pub fields_without : List Text → List (FieldDefinitionOf Span) → List (FieldDefinitionOf Span)
fields_without names fields = filter (λ f. not (is_one_of names f.name.text)) fields

-- an object type or an interface without its fields of those names (sections 3.6 and 3.7)
abbrev pub body_without : List Text → BodyOf Span → BodyOf Span
body_without names scalar_type = scalar_type
body_without names (object_type interfaces fields) = object_type interfaces (fields_without names fields)
body_without names (interface_type interfaces fields) = interface_type interfaces (fields_without names fields)
body_without names (union_type members) = union_type members
body_without names (enum_type values) = enum_type values
body_without names (input_type fields) = input_type fields

-- the definition of a type without its description and its fields of those names
abbrev pub definition_without : List Text → TypeSystemOf Span → TypeSystemOf Span
definition_without names (schema extends description directives roots place) = schema extends description directives roots place
definition_without names (type_definition extends description name directives body place) = type_definition extends None name directives (body_without names body) place
definition_without names (directive_definition description name arguments repeatable locations place) = directive_definition description name arguments repeatable locations place

-- the same with its places and its document forgotten; two type systems are equal but for those fields where these are the same
abbrev pub erase_without : List Text → EntryOf → TypeSystemOf (Unit {0})
erase_without names e = place_type_system no_place (definition_without names e.definition)

-- What the rules ask of a type system, its places forgotten: of a field, where it has none of those names.
pub record LooksAlikeBut (names : List Text) (es us : List EntryOf) : Type 0 where
  pub kind : (text : Text) → kind_named es text ≡ kind_named us text
  pub field : (type_name text : Text) → is_one_of names text ≡ false →
      option_map (place_field no_place) (field_named es type_name text) ≡ option_map (place_field no_place) (field_named us type_name text)
  pub input : (type_name text : Text) → option_map (place_input no_place) (input_named es type_name text) ≡ option_map (place_input no_place) (input_named us type_name text)
  pub value : (type_name text : Text) → has_value es type_name text ≡ has_value us type_name text
  pub member : (type_name text : Text) → has_member es type_name text ≡ has_member us type_name text
  pub declared : (type_name text : Text) → declares es type_name text ≡ declares us type_name text
  pub directive : (text : Text) → option_map (place_type_system no_place) (directive_named es text) ≡ option_map (place_type_system no_place) (directive_named us text)
  pub root : (kind : OperationKind) → root_of es kind ≡ root_of us kind

-- In type systems that are equal but for those fields each look-up of another field finds the same but for places.
abbrev pub TypesLookAlikeBut : Type 0
TypesLookAlikeBut = (names : List Text) (es us : List EntryOf) → map (erase_without names) es ≡ map (erase_without names) us → LooksAlikeBut names es us

-- a selection of a field of one of those names (section 2.5)
abbrev pub selects_in : List Text → Head Span → Bool
selects_in names (field alias name arguments directives braces place) = is_one_of names name.text
selects_in names (spread name directives place) = false
selects_in names (inline on directives braces place) = false

-- one stands among selections, at any depth
abbrev pub selects_one_of : List Text → Sels Span → Bool
selects_one_of names set = list_any (selects_in names) (labels set)

-- one stands in a definition
abbrev pub has_selected : List Text → Def Span → Bool
has_selected names (operation kind name variables directives set braces place) = selects_one_of names set
has_selected names (fragment name on directives set braces place) = selects_one_of names set
has_selected names (type_system definition) = false

-- no operation and no fragment selects a field of those names
pub record SelectNone (names : List Text) (os : List OperationOf) (gs : List FragmentOf) : Type 0 where
  pub operations : (o : OperationOf) → Contains os o → selects_one_of names o.set ≡ false
  pub fragments : (g : FragmentOf) → Contains gs g → selects_one_of names g.set ≡ false

-- Fields that are not selected do not matter: the very same faults.
abbrev pub OtherFieldsDoNotMatter : (ExecutableOf → Fault → Type 0) → Type 0
OtherFieldsDoNotMatter IsFault = (names : List Text) (es us : List EntryOf) → LooksAlikeBut names es us → (os : List OperationOf) (gs : List FragmentOf) → SelectNone names os gs → (f : Fault) →
    IsFault (record { entries = es; operations = os; fragments = gs }) f → IsFault (record { entries = us; operations = os; fragments = gs }) f

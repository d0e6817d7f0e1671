-- What is told of implementations, in the order of the entries, computed.
use Rattle.std.specs.Prelude.{ℕ, Bool, true, false, List, [], ◌∷◌, Option, Some, None, is_none, not, flat_map, if◌then◌else◌, ◌||◌, ◌&&◌}
use Rattle.std.specs.List.{list_any}
use Rattle.std.specs.Option.{option_map_or}
use Rattle.std.specs.Str.{bytes_eq}
use Rattle.gq_text.specs.declared.place.Span.{Span}
use Rattle.gq_fault.specs.declared.code.Code.TheVariants.{BadImplementation}
use Rattle.gq_fault.specs.declared.fault.Fault.{Fault}
use Rattle.gq_tree.specs.Plain.{NameOf, InputOf, FieldDefinitionOf, scalar_type, object_type, interface_type, union_type, enum_type, input_type, TypeSystemOf, schema, type_definition, directive_definition}
use Rattle.gq_tree.specs.Same.{same_types}
use Rattle.gq_types.specs.declared.entry.TypeKind.TheVariants as kind
use Rattle.gq_types.specs.Entries.{Text, EntryOf, Numbered, numbered}
use Rattle.gq_fault.specs.FaultPlaces.{fault_at}
use Rattle.gq_types.specs.Joined.{type_number, fields_in_body, interfaces_in_body}
use Rattle.gq_types.specs.Look.{joined_numbers}
use Rattle.gq_types.specs.LookUps.{has_kind, field_in, declares_in, any_part}
use Rattle.gq_types.specs.Names.{field_named, argument_named}
use Rattle.gq_types.specs.Required.{is_required}
use Rattle.gq_types.specs.SubtypesTests.{may_be_subtype_name, covers}

-- arguments: what is wanted, and what the field has
abbrev pub breaks_argument : (wanted own : Option (InputOf Span)) → Bool
breaks_argument None own = false
breaks_argument (Some wanted) None = true
breaks_argument (Some wanted) (Some own) = not (same_types wanted.type_ref own.type_ref)

abbrev pub breaks_argument_named : (wanted own : List (InputOf Span)) → Text → Bool
breaks_argument_named wanted own text = breaks_argument (argument_named wanted text) (argument_named own text)

abbrev pub breaks_arguments : (wanted own : List (InputOf Span)) → List (InputOf Span) → Bool
breaks_arguments wanted own arguments = list_any (λ a. breaks_argument_named wanted own a.name.text) arguments

-- whether the field requires the argument of that name, and it is not wanted
abbrev pub requires_named : (wanted own : List (InputOf Span)) → Text → Bool
requires_named wanted own text = option_map_or is_required (argument_named own text) false && is_none (argument_named wanted text)

abbrev pub requires_further : (wanted own : List (InputOf Span)) → List (InputOf Span) → Bool
requires_further wanted own arguments = list_any (λ a. requires_named wanted own a.name.text) arguments

-- fields
abbrev pub breaks_own_field : List EntryOf → (wanted own : FieldDefinitionOf Span) → Bool
breaks_own_field es wanted own =
    not (covers (may_be_subtype_name es) own.type_ref wanted.type_ref) || (breaks_arguments wanted.arguments own.arguments wanted.arguments || requires_further wanted.arguments own.arguments own.arguments)

abbrev pub breaks_inherited : List EntryOf → (wanted own : Option (FieldDefinitionOf Span)) → Bool
breaks_inherited es None own = false
breaks_inherited es (Some wanted) None = true
breaks_inherited es (Some wanted) (Some own) = breaks_own_field es wanted own

abbrev pub breaks_field_named : List EntryOf → ℕ → (interface text : Text) → Bool
breaks_field_named es number interface text = breaks_inherited es (field_named es interface text) (field_in es number text)

abbrev pub breaks_fields : List EntryOf → ℕ → Text → (other : ℕ) → Bool
breaks_fields es number interface other = any_part (λ f. breaks_field_named es number interface f.name.text) fields_in_body es (joined_numbers es other)

-- interfaces
abbrev pub lacks_further : List EntryOf → ℕ → Text → Bool
lacks_further es number further = has_kind es kind.Interface further && not (declares_in es number further)

abbrev pub lacks_interfaces : List EntryOf → ℕ → (other : ℕ) → Bool
lacks_interfaces es number other = any_part (λ i. lacks_further es number i.text) interfaces_in_body es (joined_numbers es other)

abbrev pub breaks_interface_at : List EntryOf → ℕ → Text → Option ℕ → Bool
breaks_interface_at es number interface None = false
breaks_interface_at es number interface (Some other) = lacks_interfaces es number other || breaks_fields es number interface other

abbrev pub breaks_interface : List EntryOf → ℕ → (name interface : Text) → Bool
breaks_interface es number name interface =
    bytes_eq interface name || (has_kind es kind.Interface interface && breaks_interface_at es number interface (type_number es interface))

abbrev pub breaks_implementation : List EntryOf → ℕ → Text → Bool
breaks_implementation es number name = any_part (λ i. breaks_interface es number name i.text) interfaces_in_body es (joined_numbers es number)

abbrev pub told_of : List EntryOf → ℕ → ℕ → NameOf Span → List Fault
told_of es number file name = if breaks_implementation es number name.text then fault_at file BadImplementation name ∷ [] else []

abbrev pub bad_implementation : List EntryOf → ℕ → ℕ → TypeSystemOf Span → List Fault
bad_implementation es number file (schema extends description directives roots place) = []
bad_implementation es number file (type_definition true description name directives body place) = []
bad_implementation es number file (type_definition false description name directives scalar_type place) = []
bad_implementation es number file (type_definition false description name directives (object_type interfaces fields) place) = told_of es number file name
bad_implementation es number file (type_definition false description name directives (interface_type interfaces fields) place) = told_of es number file name
bad_implementation es number file (type_definition false description name directives (union_type members) place) = []
bad_implementation es number file (type_definition false description name directives (enum_type values) place) = []
bad_implementation es number file (type_definition false description name directives (input_type fields) place) = []
bad_implementation es number file (directive_definition description name arguments repeatable locations place) = []

abbrev pub bad_implementation_at : List EntryOf → Numbered → List Fault
bad_implementation_at es n = bad_implementation es n.number n.entry.file n.entry.definition

abbrev pub bad_implementations : List EntryOf → List Fault
bad_implementations es = flat_map (bad_implementation_at es) (numbered es)

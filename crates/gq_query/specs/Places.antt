-- Where fields and types are defined: the places of their names.
use Rattle.std.specs.Prelude.{ℕ, List, Option, Some, None, find, bytes_eq, if◌then◌else◌, option_and_then}
use Rattle.std.specs.Option.{option_map}
use Rattle.std.specs.List.{list_any}
use Rattle.gq_text.specs.declared.place.Span.{Span}
use Rattle.gq_tree.specs.Plain.{FieldDefinitionOf, TypeSystemOf, schema, type_definition, directive_definition}
use Rattle.gq_types.specs.Entries.{Text, EntryOf}
use Rattle.gq_types.specs.BuiltIn.{is_built_in_scalar}
use Rattle.gq_types.specs.Joined.{In, is_type_named, type_number, fields_of}
use Rattle.gq_document.specs.Selections.{typename}
use Rattle.gq_index.specs.declared.occurrence.Occurrence.{Occurrence}
use Rattle.gq_index.specs.Occurrences.{DefinitionOf}
use Rattle.gq_mentions.specs.Mentions.{MentionOf}
use Rattle.gq_query.specs.Parents.{parent_of}

abbrev pub field_name_place : In (FieldDefinitionOf Span) → Occurrence
field_name_place f = record { file = f.file; span = f.it.name.place }

-- The field of that name of the type of that name, in its definition or in an extension (section 3.6). Nothing defines
-- `__typename`.
abbrev pub field_place : List EntryOf → (type_name text : Text) → Option Occurrence
field_place es type_name text =
    if bytes_eq text typename then None else
    option_and_then (λ number. option_map field_name_place (find (λ f. bytes_eq text f.it.name.text) (fields_of es number))) (type_number es type_name)

-- that of the field that is named
abbrev pub defined_field_place : List EntryOf → List DefinitionOf → MentionOf → Option Occurrence
defined_field_place es ds m = option_and_then (λ type_name. field_place es type_name m.name.text) (parent_of es ds m)

-- the name of the type that a definition or extension is of
abbrev pub type_name_place : ℕ → TypeSystemOf Span → Option Occurrence
type_name_place file (schema extends description directives roots place) = None
type_name_place file (type_definition extends description name directives body place) = Some (record { file = file; span = name.place })
type_name_place file (directive_definition description name arguments repeatable locations place) = None

-- the definition of the type of that name, which is no extension, where it is not built in
abbrev pub type_place : List EntryOf → Text → Option Occurrence
type_place es text =
    if is_built_in_scalar text then None else
    option_and_then (λ e. type_name_place e.file e.definition) (find (λ e. is_type_named text e.definition) es)

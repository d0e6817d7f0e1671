-- What references to parts of a type system stand for.
use Rattle.std.specs.Prelude.{ℕ, List, Option, map, slice_get}
use Rattle.std.specs.Option.{option_map, option_map_or}
use Rattle.std.specs.Borrow.{Bor}
use Rattle.gq_text.specs.declared.place.Span.{Span}
use Rattle.gq_tree.specs.declared.type_system.FieldDefinition.{FieldDefinition}
use Rattle.gq_tree.specs.declared.type_system.InputValueDefinition.{InputValueDefinition}
use Rattle.gq_tree.specs.declared.type_system.DirectiveDefinition.{DirectiveDefinition}
use Rattle.gq_tree.specs.declared.type_system.TypeSystemDefinition.TheVariants as definition
use Rattle.gq_tree.specs.Plain.{FieldDefinitionOf, InputOf, TypeSystemOf}
use Rattle.gq_tree.specs.Views.{field_definition_view, input_view, type_system_view}
use Rattle.gq_types.specs.declared.entry.Entry.{Entry}
use Rattle.gq_types.specs.Entries.{Text, EntryOf, entries_view}
use Rattle.gq_types.specs.Joined.{owner_of, joined}

-- the definitions and extensions of a type system, those that are built in first
abbrev pub types_view : List Entry → List EntryOf
types_view es = entries_view es

abbrev pub text_of : Option (Bor Text) → Option Text
text_of o = option_map (λ r. r.now) o

abbrev pub field_of : Option (Bor FieldDefinition) → Option (FieldDefinitionOf Span)
field_of o = option_map (λ r. field_definition_view r.now) o

abbrev pub input_of : Option (Bor InputValueDefinition) → Option (InputOf Span)
input_of o = option_map (λ r. input_view r.now) o

abbrev pub directive_of : Option (Bor DirectiveDefinition) → Option (TypeSystemOf Span)
directive_of o = option_map (λ r. type_system_view (definition.Directive r.now)) o

-- the number that the entry with that number belongs to
abbrev pub owner_at : List EntryOf → ℕ → ℕ
owner_at es number = option_map_or (λ e. owner_of es number e.definition) (slice_get es number) number

abbrev pub joined_numbers : List EntryOf → ℕ → List ℕ
joined_numbers es number = map (λ n. n.number) (joined es number)

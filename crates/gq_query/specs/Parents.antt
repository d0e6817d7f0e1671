-- The type of the parent of a field in a selection (section 5.3.1).
use Rattle.std.specs.Prelude.{Bool, false, List, Option, nat_eq, find, slice_get, option_and_then, ◌&&◌}
use Rattle.gq_text.specs.declared.place.Span.{Span}
use Rattle.gq_tree.specs.Plain.{Head, field, spread, inline}
use Rattle.gq_types.specs.Entries.{Text, EntryOf}
use Rattle.gq_document.specs.Selections.{selections_of}
use Rattle.gq_index.specs.Occurrences.{DefinitionOf}
use Rattle.gq_mentions.specs.Mentions.{MentionOf}

-- it is a field whose name token stands there
abbrev pub is_field_at : Span → Head Span → Bool
is_field_at at (field alias name arguments directives braces place) = nat_eq name.place.start at.start && nat_eq name.place.end at.end
is_field_at at (spread name directives place) = false
is_field_at at (inline on directives braces place) = false

-- the type of the parent of the field whose name stands there in a definition
abbrev pub parent_at : List EntryOf → Span → DefinitionOf → Option Text
parent_at es at d = option_and_then (λ s. s.parent) (find (λ s. is_field_at at s.selection.label) (selections_of es d.file d.definition))

-- that of the field that is named
abbrev pub parent_of : List EntryOf → List DefinitionOf → MentionOf → Option Text
parent_of es ds m = option_and_then (parent_at es m.name.place) (slice_get ds m.definition)

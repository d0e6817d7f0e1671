-- The possible objects of a type, as the code lists them, computed.
use Rattle.std.specs.Prelude.{ℕ, List, [], ◌∷◌, ◌++◌, Option, Some, None, map, flat_map, slice_get, not, if◌then◌else◌, option_and_then, ◌&&◌}
use Rattle.std.specs.List.{list_any}
use Rattle.std.specs.Str.{bytes_eq}
use Rattle.gq_text.specs.declared.place.Span.{Span}
use Rattle.gq_tree.specs.Plain.{NameOf}
use Rattle.gq_types.specs.declared.entry.TypeKind.{TypeKind}
use Rattle.gq_types.specs.declared.entry.TypeKind.TheVariants as kind
use Rattle.gq_types.specs.Entries.{Text, EntryOf}
use Rattle.gq_types.specs.Joined.{kind_named, type_number, members_in_body}
use Rattle.gq_types.specs.Look.{joined_numbers}
use Rattle.gq_types.specs.LookUps.{has_kind, object_name, implementers, parts_of_entry}

-- the name of the object type that the entry with that number defines
abbrev pub object_at : List EntryOf → ℕ → Option Text
object_at es number = option_and_then (λ e. object_name e.definition) (slice_get es number)

abbrev pub name_in : Option Text → List Text
name_in None = []
name_in (Some text) = text ∷ []

abbrev pub objects_at : List EntryOf → List ℕ → List Text
objects_at es numbers = flat_map (λ n. name_in (object_at es n)) numbers

-- one name, where it is of an object type and none of those before
abbrev pub object_after : List EntryOf → (before : List Text) → Text → List Text
object_after es before text = if not (list_any (bytes_eq text) before) && has_kind es kind.Object text then text ∷ [] else []

abbrev pub objects_after : List EntryOf → (before texts : List Text) → List Text
objects_after es before [] = []
objects_after es before (text ∷ texts) = object_after es before text ++ objects_after es (before ++ text ∷ []) texts

abbrev pub name_texts : List (NameOf Span) → List Text
name_texts names = map (λ n. n.text) names

abbrev pub member_texts : List EntryOf → List ℕ → List Text
member_texts es numbers = flat_map (λ n. name_texts (parts_of_entry members_in_body es n)) numbers

abbrev pub object_itself : List EntryOf → Option ℕ → List Text
object_itself es (Some number) = objects_at es (number ∷ [])
object_itself es None = []

abbrev pub object_members : List EntryOf → Option ℕ → List Text
object_members es (Some number) = objects_after es [] (member_texts es (joined_numbers es number))
object_members es None = []

abbrev pub possible_of : List EntryOf → Text → Option TypeKind → List Text
possible_of es text (Some kind.Object) = object_itself es (type_number es text)
possible_of es text (Some kind.Union) = object_members es (type_number es text)
possible_of es text (Some kind.Interface) = objects_at es (implementers es text)
possible_of es text (Some kind.Scalar) = []
possible_of es text (Some kind.Enum) = []
possible_of es text (Some kind.InputObject) = []
possible_of es text None = []

abbrev pub possible_texts : List EntryOf → Text → List Text
possible_texts es text = possible_of es text (kind_named es text)

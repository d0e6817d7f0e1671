-- What is compared of two fields, computed.
use Rattle.std.specs.Prelude.{Bool, true, false, not, List, Option, Some, None, nat_eq, nat_lt, nat_le, is_some, ◌&&◌, ◌||◌, if◌then◌else◌, option_and_then}
use Rattle.std.specs.Str.{bytes_eq}
use Rattle.gq_text.specs.declared.place.Span.{Span}
use Rattle.gq_tree.specs.Plain.{TypeOf, named, list_of, non_null}
use Rattle.gq_types.specs.Entries.{Text, EntryOf}
use Rattle.gq_types.specs.Joined.{kind_named}
use Rattle.gq_document.specs.Selections.{selected_field, is_composite_named}
use Rattle.gq_tree.specs.NamedTypes.{base_name}
use Rattle.gq_document.specs.FieldSets.{FieldAt}
use Rattle.gq_merging.specs.declared.purpose.Purpose.{Purpose}
use Rattle.gq_merging.specs.declared.purpose.Purpose.TheVariants.{Shapes, Names}

abbrev pub is_no_later : FieldAt → FieldAt → Bool
is_no_later a b = nat_lt a.file b.file || (nat_eq a.file b.file && nat_le a.place.start b.place.start)

-- the type, where the type at the end is known
abbrev pub if_known : List EntryOf → TypeOf Span → Option (TypeOf Span)
if_known es t = if is_some (kind_named es (base_name t)) then Some t else None

abbrev pub known_type : List EntryOf → FieldAt → Option (TypeOf Span)
known_type es f = option_and_then (λ d. if_known es d.type_ref) (selected_field es f.parent f.name.text)

abbrev pub same_ends : List EntryOf → (left right : Text) → Bool
same_ends es left right = if is_composite_named es left then is_composite_named es right else not (is_composite_named es right) && bytes_eq left right

abbrev pub same_shapes : List EntryOf → TypeOf Span → TypeOf Span → Bool
same_shapes es (named n) (named m) = same_ends es n.text m.text
same_shapes es (named n) (list_of u) = false
same_shapes es (named n) (non_null u) = false
same_shapes es (list_of t) (named m) = false
same_shapes es (list_of t) (list_of u) = same_shapes es t u
same_shapes es (list_of t) (non_null u) = false
same_shapes es (non_null t) (named m) = false
same_shapes es (non_null t) (list_of u) = false
same_shapes es (non_null t) (non_null u) = same_shapes es t u

abbrev pub types_differ : List EntryOf → Option (TypeOf Span) → Option (TypeOf Span) → Bool
types_differ es None right = false
types_differ es (Some left) None = false
types_differ es (Some left) (Some right) = not (same_shapes es left right)

abbrev pub shapes_differ : List EntryOf → FieldAt → FieldAt → Bool
shapes_differ es a b = types_differ es (known_type es a) (known_type es b)

-- whether the field can differ from another one: for shapes, its type has to be known
abbrev pub may_differ : List EntryOf → Purpose → FieldAt → Bool
may_differ es Shapes f = is_some (known_type es f)
may_differ es Names f = true

-- The shape of a field's type (section 5.3.2, SameResponseShape()): lists and types without null, and at the end a composite
-- type or one leaf type.
use Rattle.std.specs.Prelude.{List, if◌then◌else◌}
use Rattle.gq_text.specs.declared.place.Span.{Span}
use Rattle.gq_tree.specs.Plain.{TypeOf, named, list_of, non_null}
use Rattle.gq_types.specs.Entries.{Text, EntryOf}
use Rattle.gq_document.specs.Selections.{is_composite_named}

pub data Shape : Type 0 where
  composite : Shape
  leaf : (name : Text) → Shape
  many : (fault : Shape) → Shape
  never_null : (inner : Shape) → Shape

abbrev pub end_of : List EntryOf → Text → Shape
end_of es text = if is_composite_named es text then composite else leaf text

abbrev pub shape_of : List EntryOf → TypeOf Span → Shape
shape_of es (named name) = end_of es name.text
shape_of es (list_of item) = many (shape_of es item)
shape_of es (non_null inner) = never_null (shape_of es inner)

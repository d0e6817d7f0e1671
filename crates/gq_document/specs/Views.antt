-- What the code's selections and fields stand for.
use Rattle.std.specs.Prelude.{List, Option, map}
use Rattle.std.specs.Option.{option_map}
use Rattle.gq_tree.specs.Views.{type_view, input_view, sel_view}
use Rattle.gq_types.specs.Look.{text_of}
use Rattle.gq_document.specs.Selections.{FieldOf, typename_field, SelectedOf}
use Rattle.gq_document.specs.declared.fields.SelectedField.{SelectedField}
use Rattle.gq_document.specs.declared.fields.SelectedField.TheVariants as field
use Rattle.gq_document.specs.declared.selections.Selected.{Selected}

abbrev pub field_view : SelectedField → FieldOf
field_view field.Typename = typename_field
field_view (field.Defined f) = record { type_ref = type_view f.definition.now.type_ref; arguments = map input_view f.arguments.all.now }

abbrev pub selected_field_view : Option SelectedField → Option FieldOf
selected_field_view o = option_map field_view o

abbrev pub selected_view : Selected → SelectedOf
selected_view s = record { file = s.file; parent = text_of s.parent; selection = sel_view s.selection.now }

abbrev pub selections_view : List Selected → List SelectedOf
selections_view ss = map selected_view ss

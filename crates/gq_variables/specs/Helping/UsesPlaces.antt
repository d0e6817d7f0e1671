-- The uses of variables, computed.
use Rattle.std.specs.Prelude.{ℕ, Bool, List, [], ◌∷◌, ◌++◌, Option, Some, None, flat_map, slice_get, if◌then◌else◌}
use Rattle.std.specs.Option.{option_map_or}
use Rattle.gq_text.specs.declared.place.Span.{Span}
use Rattle.gq_tree.specs.Forest.{none, more}
use Rattle.gq_tree.specs.Plain.{NameOf, Says, Val, Vals, InputOf, DirectiveOf, VariableOf, Head, field, spread, inline, variable, int, float, string, boolean, null, enum, list, object}
use Rattle.gq_tree.specs.Views.{value_view}
use Rattle.gq_tree.specs.declared.value.Value.{Value}
use Rattle.gq_tree.specs.declared.value.ObjectField.{ObjectField}
use Rattle.gq_types.specs.Entries.{Text, EntryOf}
use Rattle.gq_types.specs.Arguments.{directive_arguments}
use Rattle.gq_document.specs.Definitions.{OperationOf, FragmentOf}
use Rattle.gq_document.specs.Selections.{SelectedOf, operation_selections, fragment_selections}
use Rattle.gq_variables.specs.Uses.{PlaceOf, UseOf, field_place, part_place, argument_place, field_arguments}

-- the use that a literal itself is
abbrev pub own_uses : ℕ → PlaceOf → Says Span → List UseOf
own_uses file place (variable name span) = record { file = file; name = name; place = place } ∷ []
own_uses file place (int text span) = []
own_uses file place (float text span) = []
own_uses file place (string text span) = []
own_uses file place (boolean value span) = []
own_uses file place (null span) = []
own_uses file place (enum name) = []
own_uses file place (list span) = []
own_uses file place (object span) = []

-- those in literals in a row, at any depth
abbrev pub uses_among : List EntryOf → ℕ → (Option (NameOf Span) → PlaceOf) → Vals Span → List UseOf
uses_among es file at none = []
uses_among es file at (more part below rest) = (own_uses file (at part.key) part.says ++ uses_among es file (part_place es (at part.key)) below) ++ uses_among es file at rest

-- those in a literal
abbrev pub value_uses : List EntryOf → ℕ → PlaceOf → Val Span → List UseOf
value_uses es file place value = own_uses file place value.label.says ++ uses_among es file (part_place es place) value.below

-- those in the items of a list literal and in the fields of an object literal, as the code has them
abbrev pub item_uses : List EntryOf → ℕ → PlaceOf → List Value → List UseOf
item_uses es file place values = flat_map (λ v. value_uses es file place (value_view v)) values

abbrev pub uses_of_field : List EntryOf → ℕ → PlaceOf → ObjectField → List UseOf
uses_of_field es file place f = value_uses es file (field_place es place f.name.text) (value_view f.value)

abbrev pub field_uses : List EntryOf → ℕ → PlaceOf → List ObjectField → List UseOf
field_uses es file place fields = flat_map (uses_of_field es file place) fields

-- those in arguments
abbrev pub uses_under : List EntryOf → ℕ → Option (List (InputOf Span)) → Val Span → Option (NameOf Span) → List UseOf
uses_under es file definitions argument None = []
uses_under es file definitions argument (Some key) = value_uses es file (argument_place definitions key.text) argument

abbrev pub uses_of_argument : List EntryOf → ℕ → Option (List (InputOf Span)) → Val Span → List UseOf
uses_of_argument es file definitions argument = uses_under es file definitions argument argument.label.key

abbrev pub argument_uses : List EntryOf → ℕ → Option (List (InputOf Span)) → List (Val Span) → List UseOf
argument_uses es file definitions arguments = flat_map (uses_of_argument es file definitions) arguments

-- those in directives
abbrev pub uses_of_directive : List EntryOf → ℕ → DirectiveOf Span → List UseOf
uses_of_directive es file directive = argument_uses es file (directive_arguments es directive.name.text) directive.arguments

abbrev pub directive_uses : List EntryOf → ℕ → List (DirectiveOf Span) → List UseOf
directive_uses es file directives = flat_map (uses_of_directive es file) directives

-- those in a selection, and not in the selections below it
abbrev pub head_uses : List EntryOf → ℕ → Option Text → Head Span → List UseOf
head_uses es file parent (field alias name arguments directives braces span) = argument_uses es file (field_arguments es parent name.text) arguments ++ directive_uses es file directives
head_uses es file parent (spread name directives span) = directive_uses es file directives
head_uses es file parent (inline on directives braces span) = directive_uses es file directives

abbrev pub uses_of_selection : List EntryOf → SelectedOf → List UseOf
uses_of_selection es s = head_uses es s.file s.parent s.selection.label

abbrev pub selection_uses : List EntryOf → List SelectedOf → List UseOf
selection_uses es selections = flat_map (uses_of_selection es) selections

-- those in the directives of variables
abbrev pub variable_uses : List EntryOf → ℕ → List (VariableOf Span) → List UseOf
variable_uses es file variables = flat_map (λ v. directive_uses es file v.directives) variables

-- those of an operation, and of a fragment
abbrev pub operation_uses : List EntryOf → OperationOf → List UseOf
operation_uses es o = selection_uses es (operation_selections es o) ++ (directive_uses es o.file o.directives ++ variable_uses es o.file o.variables)

abbrev pub fragment_uses : List EntryOf → FragmentOf → List UseOf
fragment_uses es f = selection_uses es (fragment_selections es f) ++ directive_uses es f.file f.directives

-- the uses in the row of that number
abbrev pub row_at : List (List UseOf) → ℕ → List UseOf
row_at rows number = option_map_or (λ row. row) (slice_get rows number) []

-- the uses, unless their faults are known
abbrev pub unless : Bool → List UseOf → List UseOf
unless are_known uses = if are_known then [] else uses

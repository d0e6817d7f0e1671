-- The plain trees that the code's trees stand for.
use Rattle.std.specs.Prelude.{List, Option, Some, None, map, Box}
use Rattle.std.specs.Option.{option_map}
use Rattle.std.specs.Arc.{arc_value}
use Rattle.std.specs.declared.alloc.Global.{Global}
use Rattle.gq_text.specs.declared.place.Span.{Span}
use Rattle.gq_tree.specs.declared.tree.Name.{Name}
use Rattle.gq_tree.specs.declared.tree.Selection.{Selection}
use Rattle.gq_tree.specs.declared.tree.SelectionSet.{SelectionSet}
use Rattle.gq_tree.specs.declared.tree.VariableDefinition.{VariableDefinition}
use Rattle.gq_tree.specs.declared.tree.Definition.{Definition}
use Rattle.gq_tree.specs.declared.tree.Definition.TheVariants.{Operation, Fragment, TypeSystem}
use Rattle.gq_tree.specs.declared.tree.Document.{Document}
use Rattle.gq_tree.specs.declared.tree.Selection.TheFolds.{fold-Selection}
use Rattle.gq_tree.specs.declared.tree.Selection.TheOpen.{Selection-F, Field-F, InlineFragment-F, SelectionSet-F}
use Rattle.gq_tree.specs.declared.tree.Selection.TheOpen as layer
use Rattle.gq_tree.specs.declared.value.Value.{Value}
use Rattle.gq_tree.specs.declared.value.Argument.{Argument}
use Rattle.gq_tree.specs.declared.value.Directive.{Directive}
use Rattle.gq_tree.specs.declared.value.ObjectField.{ObjectField}
use Rattle.gq_tree.specs.declared.value.Value.TheFolds.{fold-Value}
use Rattle.gq_tree.specs.declared.value.Value.TheOpen.{Value-F, ObjectField-F}
use Rattle.gq_tree.specs.declared.types.TypeRef.{TypeRef}
use Rattle.gq_tree.specs.declared.types.TypeRef.TheOpen.{TypeRef-F}
use Rattle.gq_tree.specs.declared.types.TypeRef.TheFolds.{fold-TypeRef}
use Rattle.gq_tree.specs.declared.value.Literal.{Literal}
use Rattle.gq_tree.specs.declared.type_system.InputValueDefinition.{InputValueDefinition}
use Rattle.gq_tree.specs.declared.type_system.FieldDefinition.{FieldDefinition}
use Rattle.gq_tree.specs.declared.type_system.EnumValueDefinition.{EnumValueDefinition}
use Rattle.gq_tree.specs.declared.type_system.RootOperationType.{RootOperationType}
use Rattle.gq_tree.specs.declared.type_system.TypeBody.{TypeBody}
use Rattle.gq_tree.specs.declared.type_system.TypeBody.TheVariants as body
use Rattle.gq_tree.specs.declared.type_system.TypeSystemDefinition.{TypeSystemDefinition}
use Rattle.gq_tree.specs.declared.type_system.TypeSystemDefinition.TheVariants as definition
use Rattle.gq_tree.specs.Forest.{none, row}
use Rattle.gq_tree.specs.Plain.{NameOf, Val, Vals, variable, int, float, string, boolean, null, enum, list, object, unnamed, under, DirectiveOf, TypeOf, named, list_of, non_null, VariableOf, Sel, Sels, Def, field, spread, inline, operation, fragment, type_system, InputOf, FieldDefinitionOf, EnumValueOf, RootOf, BodyOf, scalar_type, object_type, interface_type, union_type, enum_type, input_type, TypeSystemOf, schema, type_definition, directive_definition}

-- a name
abbrev pub name_of : Name → NameOf Span
name_of n = record { text = n.text; place = n.span }

-- the alias of a field, where it has one
abbrev pub alias_of : Option (Box Name Global) → Option (NameOf Span)
alias_of o = option_map (λ b. name_of b.value) o

-- one layer of a value, and of a field of an object, whose parts are seen already
abbrev pub value_step : Value-F (Val Span) (Val Span) → Val Span
value_step (Value-F.Variable v) = unnamed (variable (name_of v.name) v.span) none
value_step (Value-F.Int l) = unnamed (int l.text l.span) none
value_step (Value-F.Float l) = unnamed (float l.text l.span) none
value_step (Value-F.String l) = unnamed (string l.text l.span) none
value_step (Value-F.Boolean b place) = unnamed (boolean b place) none
value_step (Value-F.Null place) = unnamed (null place) none
value_step (Value-F.Enum n) = unnamed (enum (name_of n)) none
value_step (Value-F.List items place) = unnamed (list place) (row items.items)
value_step (Value-F.Object fields place) = unnamed (object place) (row fields.items)

abbrev pub entry_step : ObjectField-F (Val Span) (Val Span) → Val Span
entry_step e = under (name_of e.name) e.value

-- a value
unfoldable pub value_view : Value → Val Span
value_view = fold-Value (Val Span) (Val Span) value_step entry_step

-- values in a row
abbrev pub values_view : List Value → Vals Span
values_view vs = row (map value_view vs)

-- a field of an object, an argument
abbrev pub entry_view : ObjectField → Val Span
entry_view e = under (name_of e.name) (value_view e.value)

abbrev pub entries_view : List ObjectField → Vals Span
entries_view es = row (map entry_view es)

abbrev pub argument_view : Argument → Val Span
argument_view a = under (name_of a.name) (value_view a.value)

-- a directive
abbrev pub directive_view : Directive → DirectiveOf Span
directive_view d = record { name = name_of d.name; arguments = map argument_view d.arguments.items; place = d.span }

-- a type
abbrev pub type_step : TypeRef-F (TypeOf Span) → TypeOf Span
type_step (TypeRef-F.Named n) = named (name_of n)
type_step (TypeRef-F.List t) = list_of t.value
type_step (TypeRef-F.NonNull t) = non_null t.value

unfoldable pub type_view : TypeRef → TypeOf Span
type_view = fold-TypeRef (TypeOf Span) type_step

-- the definition of a variable
abbrev pub variable_view : VariableDefinition → VariableOf Span
variable_view v = record {
  name = name_of v.variable.name;
  place = v.variable.span;
  type_ref = type_view v.type_ref;
  default = option_map value_view v.default;
  directives = map directive_view v.directives.items;
}

-- selections in braces
pub record Braces : Type 0 where
  pub sels : Sels Span
  pub place : Span

abbrev pub place_of : Option (Box Braces Global) → Option Span
place_of None = None
place_of (Some b) = Some b.value.place

abbrev pub sels_of : Option (Box Braces Global) → Sels Span
sels_of None = none
sels_of (Some b) = b.value.sels

-- one layer of a selection, of a field, of an inline fragment and of a selection set, whose parts are seen already
abbrev pub sel_step : Selection-F (Sel Span) (Sel Span) (Sel Span) Braces → Sel Span
sel_step (layer.Field f) = f
sel_step (layer.Spread s) = record { label = spread (name_of s.name) (map directive_view s.directives.items) s.span; below = none }
sel_step (layer.Inline i) = i

abbrev pub field_step : Field-F (Sel Span) (Sel Span) (Sel Span) Braces → Sel Span
field_step f = record {
  label = field (alias_of f.alias) (name_of f.name) (map argument_view f.arguments.items) (map directive_view f.directives.items) (place_of f.set) f.span;
  below = sels_of f.set;
}

abbrev pub inline_step : InlineFragment-F (Sel Span) (Sel Span) (Sel Span) Braces → Sel Span
inline_step i = record { label = inline (option_map name_of i.on) (map directive_view i.directives.items) i.set.place i.span; below = i.set.sels }

abbrev pub set_step : SelectionSet-F (Sel Span) (Sel Span) (Sel Span) Braces → Braces
set_step s = record { sels = row s.items.items; place = s.span }

-- a selection
unfoldable pub sel_view : Selection → Sel Span
sel_view = fold-Selection (Sel Span) (Sel Span) (Sel Span) Braces sel_step field_step inline_step set_step

-- selections in a row
abbrev pub sels_view : List Selection → Sels Span
sels_view ss = row (map sel_view ss)

-- the selections of a selection set, and its place; none where there is no selection set
abbrev pub below_of : Option (Box SelectionSet Global) → Sels Span
below_of None = none
below_of (Some s) = sels_view s.value.items.items

abbrev pub braces_of : Option (Box SelectionSet Global) → Option Span
braces_of None = None
braces_of (Some s) = Some s.value.span

-- a description, by its spelling
abbrev pub literal_view : Literal → NameOf Span
literal_view l = record { text = l.text; place = l.span }

-- type system definitions and their parts
abbrev pub input_view : InputValueDefinition → InputOf Span
input_view i = record {
  description = option_map literal_view i.description;
  name = name_of i.name;
  type_ref = type_view i.type_ref;
  default = option_map value_view i.default;
  directives = map directive_view i.directives.items;
}

abbrev pub field_definition_view : FieldDefinition → FieldDefinitionOf Span
field_definition_view d = record {
  description = option_map literal_view d.description;
  name = name_of d.name;
  arguments = map input_view d.arguments.items;
  type_ref = type_view d.type_ref;
  directives = map directive_view d.directives.items;
}

abbrev pub enum_value_view : EnumValueDefinition → EnumValueOf Span
enum_value_view v = record { description = option_map literal_view v.description; name = name_of v.name; directives = map directive_view v.directives.items }

abbrev pub root_view : RootOperationType → RootOf Span
root_view r = record { kind = r.kind; name = name_of r.name }

abbrev pub body_view : TypeBody → BodyOf Span
body_view body.Scalar = scalar_type
body_view (body.Object o) = object_type (map name_of o.interfaces.items) (map field_definition_view o.fields.items)
body_view (body.Interface o) = interface_type (map name_of o.interfaces.items) (map field_definition_view o.fields.items)
body_view (body.Union members) = union_type (map name_of members.items)
body_view (body.Enum values) = enum_type (map enum_value_view values.items)
body_view (body.InputObject fields) = input_type (map input_view fields.items)

abbrev pub type_system_view : TypeSystemDefinition → TypeSystemOf Span
type_system_view (definition.Schema s) = schema s.extends (option_map literal_view s.description) (map directive_view s.directives.items) (map root_view s.roots.items) s.span
type_system_view (definition.Type t) =
    type_definition t.extends (option_map literal_view t.description) (name_of t.name) (map directive_view t.directives.items) (body_view t.body) t.span
type_system_view (definition.Directive d) =
    directive_definition (option_map literal_view d.description) (name_of d.name) (map input_view d.arguments.items) d.repeatable d.locations.items d.span

-- a definition
abbrev pub def_view : Definition → Def Span
def_view (Operation o) =
    operation o.kind (option_map name_of o.name) (map variable_view o.variables.items) (map directive_view o.directives.items) (sels_view o.set.items.items) o.set.span o.span
def_view (Fragment f) =
    fragment (name_of f.name) (name_of f.on) (map directive_view f.directives.items) (sels_view f.set.items.items) f.set.span f.span
def_view (TypeSystem d) = type_system (type_system_view (arc_value d))

-- a document
abbrev pub document_view : Document → List (Def Span)
document_view d = map def_view d.definitions.items

-- The trees of a document as contracts see them. P is what stands for a place: a span, or nothing.
use Rattle.std.specs.Prelude.{List, ℕ, Bool, Option, Some, None, map}
use Rattle.std.specs.Option.{option_map}
use Rattle.gq_tree.specs.declared.tree.OperationKind.{OperationKind}
use Rattle.gq_tree.specs.declared.type_system.DirectiveLocation.{DirectiveLocation}
use Rattle.gq_tree.specs.Forest.{Forest, Tree, relabel, relabel_tree}

-- Name (section 2.1.9)
pub record NameOf (P : Type 0) : Type 0 where
  pub text : List ℕ
  pub place : P

-- What a Value says (section 2.9), the values in it left out. A number and a string are given by their spelling. The
-- place of a variable goes from its `$` to the end of its name, that of a list or an object from its opening bracket
-- to the end of the closing one.
pub data Says (P : Type 0) : Type 0 where
  variable : (name : NameOf P) → (place : P) → Says P
  int : (text : List ℕ) → (place : P) → Says P
  float : (text : List ℕ) → (place : P) → Says P
  string : (text : List ℕ) → (place : P) → Says P
  boolean : (value : Bool) → (place : P) → Says P
  null : (place : P) → Says P
  enum : (name : NameOf P) → Says P
  list : (place : P) → Says P
  object : (place : P) → Says P

-- a value by itself or in a list, or under a name: an ObjectField (section 2.9.8) or an Argument (section 2.6)
pub record Part (P : Type 0) : Type 0 where
  pub key : Option (NameOf P)
  pub says : Says P

-- a value, and values in a row
abbrev pub Val : Type 0 → Type 0
Val P = Tree (Part P)

abbrev pub Vals : Type 0 → Type 0
Vals P = Forest (Part P)

-- a value by itself, and the same under a name
abbrev pub unnamed : {P : Type 0} → Says P → Vals P → Val P
unnamed s below = record { label = record { key = None; says = s }; below = below }

abbrev pub under : {P : Type 0} → NameOf P → Val P → Val P
under n v = record { label = record { key = Some n; says = v.label.says }; below = v.below }

-- Directive (section 2.12)
pub record DirectiveOf (P : Type 0) : Type 0 where
  pub name : NameOf P
  pub arguments : List (Val P)
  pub place : P

-- Type (section 2.11)
pub data TypeOf (P : Type 0) : Type 0 where
  named : (name : NameOf P) → TypeOf P
  list_of : (item : TypeOf P) → TypeOf P
  non_null : (inner : TypeOf P) → TypeOf P

-- VariableDefinition (section 2.10); the place is the variable's
pub record VariableOf (P : Type 0) : Type 0 where
  pub name : NameOf P
  pub place : P
  pub type_ref : TypeOf P
  pub default : Option (Val P)
  pub directives : List (DirectiveOf P)

-- What a Selection says (section 2.4), the selections in its braces left out. The braces of a Field are the place of
-- its SelectionSet; the place of a Field, of a FragmentSpread and of an InlineFragment is that of all its tokens.
pub data Head (P : Type 0) : Type 0 where
  field : (alias : Option (NameOf P)) → (name : NameOf P) → (arguments : List (Val P)) → (directives : List (DirectiveOf P)) → (braces : Option P) → (place : P) → Head P
  spread : (name : NameOf P) → (directives : List (DirectiveOf P)) → (place : P) → Head P
  inline : (on : Option (NameOf P)) → (directives : List (DirectiveOf P)) → (braces place : P) → Head P

-- a selection, and selections in a row
abbrev pub Sel : Type 0 → Type 0
Sel P = Tree (Head P)

abbrev pub Sels : Type 0 → Type 0
Sels P = Forest (Head P)

-- InputValueDefinition (sections 3.6.1 and 3.10). A description is given by its spelling.
pub record InputOf (P : Type 0) : Type 0 where
  pub description : Option (NameOf P)
  pub name : NameOf P
  pub type_ref : TypeOf P
  pub default : Option (Val P)
  pub directives : List (DirectiveOf P)

-- FieldDefinition (section 3.6)
pub record FieldDefinitionOf (P : Type 0) : Type 0 where
  pub description : Option (NameOf P)
  pub name : NameOf P
  pub arguments : List (InputOf P)
  pub type_ref : TypeOf P
  pub directives : List (DirectiveOf P)

-- EnumValueDefinition (section 3.9)
pub record EnumValueOf (P : Type 0) : Type 0 where
  pub description : Option (NameOf P)
  pub name : NameOf P
  pub directives : List (DirectiveOf P)

-- RootOperationTypeDefinition (section 3.3)
pub record RootOf (P : Type 0) : Type 0 where
  pub kind : OperationKind
  pub name : NameOf P

-- what a type is, and its parts (sections 3.5 to 3.10)
pub data BodyOf (P : Type 0) : Type 0 where
  scalar_type : BodyOf P
  object_type : (interfaces : List (NameOf P)) → (fields : List (FieldDefinitionOf P)) → BodyOf P
  interface_type : (interfaces : List (NameOf P)) → (fields : List (FieldDefinitionOf P)) → BodyOf P
  union_type : (members : List (NameOf P)) → BodyOf P
  enum_type : (values : List (EnumValueOf P)) → BodyOf P
  input_type : (fields : List (InputOf P)) → BodyOf P

-- TypeSystemDefinition or TypeSystemExtension (section 3); an extension extends
pub data TypeSystemOf (P : Type 0) : Type 0 where
  schema : (extends : Bool) → (description : Option (NameOf P)) → (directives : List (DirectiveOf P)) → (roots : List (RootOf P)) → (place : P) → TypeSystemOf P
  type_definition : (extends : Bool) → (description : Option (NameOf P)) → (name : NameOf P) → (directives : List (DirectiveOf P)) → (body : BodyOf P) → (place : P) → TypeSystemOf P
  directive_definition : (description : Option (NameOf P)) → (name : NameOf P) → (arguments : List (InputOf P)) → (repeatable : Bool) → (locations : List DirectiveLocation) → (place : P) → TypeSystemOf P

-- a Definition (section 2.2), with the selections in its braces, the place of the braces, and the place of all its tokens
pub data Def (P : Type 0) : Type 0 where
  operation : (kind : OperationKind) → (name : Option (NameOf P)) → (variables : List (VariableOf P)) → (directives : List (DirectiveOf P)) → (set : Sels P) → (braces place : P) → Def P
  fragment : (name on : NameOf P) → (directives : List (DirectiveOf P)) → (set : Sels P) → (braces place : P) → Def P
  type_system : (definition : TypeSystemOf P) → Def P

-- every place changed
abbrev pub place_name : {P Q : Type 0} → (P → Q) → NameOf P → NameOf Q
place_name f n = record { text = n.text; place = f n.place }

abbrev pub place_says : {P Q : Type 0} → (P → Q) → Says P → Says Q
place_says f (variable name place) = variable (place_name f name) (f place)
place_says f (int text place) = int text (f place)
place_says f (float text place) = float text (f place)
place_says f (string text place) = string text (f place)
place_says f (boolean value place) = boolean value (f place)
place_says f (null place) = null (f place)
place_says f (enum name) = enum (place_name f name)
place_says f (list place) = list (f place)
place_says f (object place) = object (f place)

abbrev pub place_part : {P Q : Type 0} → (P → Q) → Part P → Part Q
place_part f p = record { key = option_map (place_name f) p.key; says = place_says f p.says }

abbrev pub place_value : {P Q : Type 0} → (P → Q) → Val P → Val Q
place_value f v = relabel_tree (place_part f) v

abbrev pub place_directive : {P Q : Type 0} → (P → Q) → DirectiveOf P → DirectiveOf Q
place_directive f d = record { name = place_name f d.name; arguments = map (place_value f) d.arguments; place = f d.place }

abbrev pub place_type : {P Q : Type 0} → (P → Q) → TypeOf P → TypeOf Q
place_type f (named name) = named (place_name f name)
place_type f (list_of item) = list_of (place_type f item)
place_type f (non_null inner) = non_null (place_type f inner)

abbrev pub place_variable : {P Q : Type 0} → (P → Q) → VariableOf P → VariableOf Q
place_variable f v = record {
  name = place_name f v.name;
  place = f v.place;
  type_ref = place_type f v.type_ref;
  default = option_map (place_value f) v.default;
  directives = map (place_directive f) v.directives;
}

abbrev pub place_head : {P Q : Type 0} → (P → Q) → Head P → Head Q
place_head f (field alias name arguments directives braces place) =
    field (option_map (place_name f) alias) (place_name f name) (map (place_value f) arguments) (map (place_directive f) directives) (option_map f braces) (f place)
place_head f (spread name directives place) = spread (place_name f name) (map (place_directive f) directives) (f place)
place_head f (inline on directives braces place) = inline (option_map (place_name f) on) (map (place_directive f) directives) (f braces) (f place)

abbrev pub place_input : {P Q : Type 0} → (P → Q) → InputOf P → InputOf Q
place_input f i = record {
  description = option_map (place_name f) i.description;
  name = place_name f i.name;
  type_ref = place_type f i.type_ref;
  default = option_map (place_value f) i.default;
  directives = map (place_directive f) i.directives;
}

abbrev pub place_field : {P Q : Type 0} → (P → Q) → FieldDefinitionOf P → FieldDefinitionOf Q
place_field f d = record {
  description = option_map (place_name f) d.description;
  name = place_name f d.name;
  arguments = map (place_input f) d.arguments;
  type_ref = place_type f d.type_ref;
  directives = map (place_directive f) d.directives;
}

abbrev pub place_enum_value : {P Q : Type 0} → (P → Q) → EnumValueOf P → EnumValueOf Q
place_enum_value f v = record {
  description = option_map (place_name f) v.description;
  name = place_name f v.name;
  directives = map (place_directive f) v.directives;
}

abbrev pub place_root : {P Q : Type 0} → (P → Q) → RootOf P → RootOf Q
place_root f r = record { kind = r.kind; name = place_name f r.name }

abbrev pub place_body : {P Q : Type 0} → (P → Q) → BodyOf P → BodyOf Q
place_body f scalar_type = scalar_type
place_body f (object_type interfaces fields) = object_type (map (place_name f) interfaces) (map (place_field f) fields)
place_body f (interface_type interfaces fields) = interface_type (map (place_name f) interfaces) (map (place_field f) fields)
place_body f (union_type members) = union_type (map (place_name f) members)
place_body f (enum_type values) = enum_type (map (place_enum_value f) values)
place_body f (input_type fields) = input_type (map (place_input f) fields)

abbrev pub place_type_system : {P Q : Type 0} → (P → Q) → TypeSystemOf P → TypeSystemOf Q
place_type_system f (schema extends description directives roots place) =
    schema extends (option_map (place_name f) description) (map (place_directive f) directives) (map (place_root f) roots) (f place)
place_type_system f (type_definition extends description name directives body place) =
    type_definition extends (option_map (place_name f) description) (place_name f name) (map (place_directive f) directives) (place_body f body) (f place)
place_type_system f (directive_definition description name arguments repeatable locations place) =
    directive_definition (option_map (place_name f) description) (place_name f name) (map (place_input f) arguments) repeatable locations (f place)

abbrev pub place_def : {P Q : Type 0} → (P → Q) → Def P → Def Q
place_def f (operation kind name variables directives set braces place) =
    operation kind (option_map (place_name f) name) (map (place_variable f) variables) (map (place_directive f) directives) (relabel (place_head f) set) (f braces) (f place)
place_def f (fragment name on directives set braces place) =
    fragment (place_name f name) (place_name f on) (map (place_directive f) directives) (relabel (place_head f) set) (f braces) (f place)
place_def f (type_system definition) = type_system (place_type_system f definition)

-- places forgotten
abbrev pub no_place : {P : Type 0} → P → Unit {0}
no_place p = tt

abbrev pub erase : {P : Type 0} → Sel P → Sel (Unit {0})
erase s = relabel_tree (place_head no_place) s

abbrev pub erase_all : {P : Type 0} → Sels P → Sels (Unit {0})
erase_all ss = relabel (place_head no_place) ss

abbrev pub erase_document : {P : Type 0} → List (Def P) → List (Def (Unit {0}))
erase_document ds = map (place_def no_place) ds

abbrev pub erase_values : {P : Type 0} → List (Val P) → List (Val (Unit {0}))
erase_values vs = map (place_value no_place) vs

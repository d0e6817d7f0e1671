-- What is known of each selection: the type of its parent, and the field that it names (section 5.3).
use Rattle.std.specs.Prelude.{◌≡◌, true, List, Option, Some, is_some, Contains}
use Rattle.gq_text.specs.declared.place.Span.{Span}
use Rattle.gq_types.specs.declared.entry.TypeKind.{TypeKind}
use Rattle.gq_types.specs.declared.entry.TypeKind.TheVariants as kind
use Rattle.gq_types.specs.Entries.{Text, EntryOf}
use Rattle.gq_types.specs.Joined.{kind_named}
use Rattle.gq_types.specs.Kinds.{is_composite}
use Rattle.gq_types.specs.Roots.{root_of}
use Rattle.gq_document.specs.Definitions.{OperationOf}
use Rattle.gq_document.specs.Selections.{FieldOf, SelectedOf, selected_field}
use Rattle.gq_tree.specs.NamedTypes.{base_name}
use Rattle.gq_document.specs.Executable.{ExecutableOf, Selects}
use Rattle.gq_fields.specs.SelectedFields.{SelectsField}
use Rattle.gq_rules.specs.Project.{executable_of}
use Rattle.gq_laws.specs.Rewriting.Promised.{OfValidProjects}

-- the parent is an object type, an interface or a union
pub record HasParent (es : List EntryOf) (parent : Option Text) : Type 0 where
  pub type_name : Text
  pub is : parent ≡ Some type_name
  pub of_kind : TypeKind
  pub is_known : kind_named es type_name ≡ Some of_kind
  pub is_composite_kind : is_composite of_kind ≡ true

-- The field is defined on the parent (section 5.3.1), its type is known, and there are braces exactly where that type is
-- composite (section 5.3.3).
pub record HasField (es : List EntryOf) (parent : Option Text) (text : Text) (braces : Option Span) : Type 0 where
  pub definition : FieldOf
  pub is_defined : selected_field es parent text ≡ Some definition
  pub of_kind : TypeKind
  pub is_known : kind_named es (base_name definition.type_ref) ≡ Some of_kind
  pub in_braces : is_some braces ≡ is_composite of_kind

-- the root type of that kind of operation is an object type (section 3.3.1)
pub record HasRoot (es : List EntryOf) (o : OperationOf) : Type 0 where
  pub type_name : Text
  pub is : root_of es o.kind ≡ Some type_name
  pub is_object : kind_named es type_name ≡ Some kind.Object

abbrev pub HaveRoots : ExecutableOf → Type 0
HaveRoots x = (o : OperationOf) → Contains x.operations o → HasRoot x.entries o

abbrev pub HaveParents : ExecutableOf → Type 0
HaveParents x = (s : SelectedOf) → Selects x s → HasParent x.entries s.parent

abbrev pub HaveFields : ExecutableOf → Type 0
HaveFields x = (one : SelectsField x) → HasField x.entries one.selected.parent one.name.text one.braces

abbrev pub OperationsHaveRoots : Type 0
OperationsHaveRoots = OfValidProjects (λ readings. HaveRoots (executable_of readings))

abbrev pub ParentsAreKnown : Type 0
ParentsAreKnown = OfValidProjects (λ readings. HaveParents (executable_of readings))

abbrev pub FieldsAreDefined : Type 0
FieldsAreDefined = OfValidProjects (λ readings. HaveFields (executable_of readings))

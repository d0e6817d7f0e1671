-- What a type has of the interfaces that it declares (IsValidImplementation, sections 3.6.1 and 3.7), and what an object has of all types for
-- which it is possible.
use Rattle.std.specs.Prelude.{◌≡◌, ◌≢◌, ◌⊎◌, true, false, List, Some, None}
use Rattle.gq_text.specs.declared.place.Span.{Span}
use Rattle.gq_tree.specs.Plain.{InputOf, FieldDefinitionOf, place_type, no_place}
use Rattle.gq_types.specs.declared.entry.TypeKind.TheVariants as kind
use Rattle.gq_types.specs.Entries.{Text, EntryOf}
use Rattle.gq_types.specs.Joined.{kind_named}
use Rattle.gq_types.specs.Names.{field_named, declares, argument_named}
use Rattle.gq_types.specs.Possible.{IsPossible, IsSubtype}
use Rattle.gq_types.specs.Required.{is_required}
use Rattle.gq_document.specs.Selections.{FieldOf, field_on}
use Rattle.gq_rules.specs.Project.{type_system_of}
use Rattle.gq_laws.specs.Rewriting.Promised.{OfValidProjects}

-- An argument of that name is there, of the same type, places aside.
pub record HasArgument (own : List (InputOf Span)) (text : Text) (wanted : InputOf Span) : Type 0 where
  pub argument : InputOf Span
  pub is_defined : argument_named own text ≡ Some argument
  pub one_type : place_type no_place argument.type_ref ≡ place_type no_place wanted.type_ref

-- A field as an interface wants it: its type is a subtype (IsValidImplementationFieldType); it has each argument that is wanted, and requires no other.
pub record ImplementsField (es : List EntryOf) (wanted own : FieldDefinitionOf Span) : Type 0 where
  pub is_subtype : IsSubtype es own.type_ref wanted.type_ref
  pub has_arguments : (text : Text) (argument : InputOf Span) → argument_named wanted.arguments text ≡ Some argument → HasArgument own.arguments text argument
  pub requires_no_other : (text : Text) (argument : InputOf Span) → argument_named own.arguments text ≡ Some argument →
      argument_named wanted.arguments text ≡ None → is_required argument ≡ false

pub record HasField (es : List EntryOf) (type_name text : Text) (wanted : FieldDefinitionOf Span) : Type 0 where
  pub own : FieldDefinitionOf Span
  pub is_defined : field_named es type_name text ≡ Some own
  pub implements : ImplementsField es wanted own

-- the types that may implement interfaces: object types and interfaces
abbrev pub MayImplement : List EntryOf → Text → Type 0
MayImplement es type_name = (kind_named es type_name ≡ Some kind.Object) ⊎ (kind_named es type_name ≡ Some kind.Interface)

-- the type declares the interface
pub record Implements (es : List EntryOf) (type_name interface : Text) : Type 0 where
  pub may : MayImplement es type_name
  pub is_interface : kind_named es interface ≡ Some kind.Interface
  pub declared : declares es type_name interface ≡ true

-- It is another type, declares each interface that this one declares, and has each field of it.
pub record ImplementsWell (es : List EntryOf) (type_name interface : Text) : Type 0 where
  pub is_other : type_name ≢ interface
  pub further : (other : Text) → declares es interface other ≡ true → kind_named es other ≡ Some kind.Interface → declares es type_name other ≡ true
  pub fields : (text : Text) (wanted : FieldDefinitionOf Span) → field_named es interface text ≡ Some wanted → HasField es type_name text wanted

abbrev pub AllImplementWell : List EntryOf → Type 0
AllImplementWell es = (type_name interface : Text) → Implements es type_name interface → ImplementsWell es type_name interface

-- A type that stands for another has its field of that name, `__typename` among them, with a subtype.
pub record HasSubtypeField (es : List EntryOf) (type_name text : Text) (wanted : FieldOf) : Type 0 where
  pub own : FieldOf
  pub is_defined : field_on es type_name text ≡ Some own
  pub is_subtype : IsSubtype es own.type_ref wanted.type_ref

abbrev pub HaveSubtypeFields : List EntryOf → Type 0
HaveSubtypeFields es = (type_name object text : Text) (wanted : FieldOf) → IsPossible es type_name object → field_on es type_name text ≡ Some wanted → HasSubtypeField es object text wanted

-- in a valid project
abbrev pub InterfacesAreImplemented : Type 0
InterfacesAreImplemented = OfValidProjects (λ readings. AllImplementWell (type_system_of readings))

abbrev pub ObjectsHaveSubtypeFields : Type 0
ObjectsHaveSubtypeFields = OfValidProjects (λ readings. HaveSubtypeFields (type_system_of readings))

-- How a type implements the interfaces that it declares: IsValidImplementation (sections 3.6.1 and 3.7).
use Rattle.std.specs.Prelude.{◌≡◌, ◌≢◌, ◌⊎◌, ℕ, true, false, List, Option, Some, None, Contains}
use Rattle.gq_text.specs.declared.place.Span.{Span}
use Rattle.gq_fault.specs.declared.code.Code.TheVariants.{BadImplementation}
use Rattle.gq_fault.specs.declared.fault.Fault.{Fault}
use Rattle.gq_tree.specs.Plain.{NameOf, DirectiveOf, InputOf, FieldDefinitionOf, BodyOf, type_definition, place_type, no_place}
use Rattle.gq_types.specs.declared.entry.TypeKind.TheVariants as kind
use Rattle.gq_types.specs.Entries.{Text, EntryOf, Numbered}
use Rattle.gq_fault.specs.FaultPlaces.{fault_at}
use Rattle.gq_types.specs.Joined.{kind_named, judged}
use Rattle.gq_types.specs.Kinds.{kind_of}
use Rattle.gq_types.specs.LookUps.{field_in, declares_in}
use Rattle.gq_types.specs.Names.{field_named, declares, argument_named}
use Rattle.gq_types.specs.Possible.{Covers}
use Rattle.gq_types.specs.Required.{is_required}
use Rattle.gq_types.specs.Subtypes.{MayBeSubtypeName}

-- the type with that number declares the interface
abbrev pub Implements : List EntryOf → ℕ → Text → Type 0
Implements es number interface = (declares_in es number interface ≡ true) × (kind_named es interface ≡ Some kind.Interface)

-- and the interface has the field of that name
pub record Inherits (es : List EntryOf) (number : ℕ) (text : Text) (field : FieldDefinitionOf Span) : Type 0 where
  pub interface : Text
  pub implements : Implements es number interface
  pub has : field_named es interface text ≡ Some field

-- What is wrong with a field, where an interface wants it. Its type must be a subtype of what is wanted. It must have
-- each argument that is wanted, of the very same type; of its further arguments none may be required.
pub data BreaksField (es : List EntryOf) (wanted own : FieldDefinitionOf Span) : Type 0 where
  has_no_subtype : (Covers (MayBeSubtypeName es) own.type_ref wanted.type_ref → ⊥) → BreaksField es wanted own
  lacks_argument : (text : Text) (argument : InputOf Span) → argument_named wanted.arguments text ≡ Some argument →
      argument_named own.arguments text ≡ None → BreaksField es wanted own
  has_other_type : (text : Text) (argument other : InputOf Span) → argument_named wanted.arguments text ≡ Some argument →
      argument_named own.arguments text ≡ Some other → place_type no_place argument.type_ref ≢ place_type no_place other.type_ref → BreaksField es wanted own
  requires_argument : (text : Text) (argument : InputOf Span) → argument_named own.arguments text ≡ Some argument →
      is_required argument ≡ true → argument_named wanted.arguments text ≡ None → BreaksField es wanted own

-- What is wrong with the type with that number, which has that name. It must not declare itself. It must declare each
-- interface that one of its interfaces declares, and have each field of its interfaces.
pub data BreaksImplementation (es : List EntryOf) (number : ℕ) (name : Text) : Type 0 where
  declares_itself : declares_in es number name ≡ true → BreaksImplementation es number name
  lacks_interface : (interface further : Text) → Implements es number interface → declares es interface further ≡ true →
      kind_named es further ≡ Some kind.Interface → declares_in es number further ≡ false → BreaksImplementation es number name
  lacks_field : (text : Text) (wanted : FieldDefinitionOf Span) → Inherits es number text wanted → field_in es number text ≡ None → BreaksImplementation es number name
  breaks_field : (text : Text) (wanted own : FieldDefinitionOf Span) → Inherits es number text wanted →
      field_in es number text ≡ Some own → BreaksField es wanted own → BreaksImplementation es number name

-- an object type or interface that does not implement an interface as it must; a second definition of a name is judged
-- with its own parts
pub record IsBadImplementation (es : List EntryOf) (fault : Fault) : Type 0 where
  pub at : Numbered
  pub is_judged : Contains (judged es) at
  pub description : Option (NameOf Span)
  pub name : NameOf Span
  pub directives : List (DirectiveOf Span)
  pub body : BodyOf Span
  pub place : Span
  pub defines : at.entry.definition ≡ type_definition false description name directives body place
  pub implements : (kind_of body ≡ kind.Object) ⊎ (kind_of body ≡ kind.Interface)
  pub breaks : BreaksImplementation es at.number name.text
  pub is : fault ≡ fault_at at.entry.file BadImplementation name

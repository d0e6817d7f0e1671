-- Circular references of input objects (section 3.10, Circular References), and the same through default values.
use Rattle.std.specs.Prelude.{◌≡◌, Bool, true, false, if◌then◌else◌, Option, Some, None, List, Contains, is_some}
use Rattle.std.specs.Option.{option_map_or}
use Rattle.std.specs.Str.{bytes_eq}
use Rattle.gq_text.specs.declared.place.Span.{Span}
use Rattle.gq_fault.specs.declared.code.Code.TheVariants.{EndlessInput}
use Rattle.gq_fault.specs.declared.fault.Fault.{Fault}
use Rattle.gq_tree.specs.Forest.{none, more}
use Rattle.gq_tree.specs.Plain.{NameOf, Val, Vals, TypeOf, named, non_null, InputOf, BodyOf, scalar_type, object_type, interface_type, union_type, enum_type, input_type, TypeSystemOf, schema, type_definition, directive_definition}
use Rattle.gq_types.specs.Entries.{Text, EntryOf, Numbered}
use Rattle.gq_types.specs.Joined.{type_number, judged}
use Rattle.gq_types.specs.Names.{input_named}
use Rattle.gq_values.specs.Literals.{at_type, is_object_literal, Holds, input_object_at}
use Rattle.gq_fault.specs.FaultPlaces.{fault_at}

-- a way of one step or more
pub data Way {V : Type 0} (Graph : V → V → Type 0) : V → V → Type 0 where
  step : {x y : V} → Graph x y → Way Graph x y
  further : {x y z : V} → Graph x y → Way Graph y z → Way Graph x z

-- A type leads to another by an input field that it has itself or by an extension, the type of which is the other type
-- without null, and no list. Only input objects have input fields.
pub record LeadsByNonNull (es : List EntryOf) (from to : Text) : Type 0 where
  pub text : Text
  pub field : InputOf Span
  pub name : NameOf Span
  pub is_field : input_named es from text ≡ Some field
  pub is_non_null : field.type_ref ≡ non_null (named name)
  pub is_other : name.text ≡ to

-- an input field, by the name of its type and its own name
pub record InputField : Type 0 where
  pub type_name : Text
  pub name : Text

-- whether an object literal has a field of that name, given what stands in its braces
abbrev pub has_key : Text → Vals Span → Bool
has_key text none = false
has_key text (more part below rest) = if option_map_or (λ key. bytes_eq text key.text) part.key false then true else has_key text rest

-- An input field leads to another where its default value, read at its type, holds at any depth an object literal that
-- stands for a value of the other's type, in which the other is absent, and the other has a default value, which then
-- stands for it.
pub record LeadsByDefault (es : List EntryOf) (from to : InputField) : Type 0 where
  pub field : InputOf Span
  pub default : Val Span
  pub is_field : input_named es from.type_name from.name ≡ Some field
  pub has_default : field.default ≡ Some default
  pub literal : Val Span
  pub literal_type : TypeOf Span
  pub holds : Holds es (at_type field.type_ref) default (at_type literal_type) literal
  pub is_object : is_object_literal literal.label.says ≡ true
  pub is_at : input_object_at es literal_type ≡ Some to.type_name
  pub is_absent : has_key to.name literal.below ≡ false
  pub other : InputOf Span
  pub is_other : input_named es to.type_name to.name ≡ Some other
  pub other_has_default : is_some other.default ≡ true

-- A type leads back to itself by fields without null, or one of its input fields does by default values.
pub data IsEndless (es : List EntryOf) (type_name : Text) : Type 0 where
  by_non_null : Way (LeadsByNonNull es) type_name type_name → IsEndless es type_name
  by_default : {field : InputField} → field.type_name ≡ type_name → Way (LeadsByDefault es) field field → IsEndless es type_name

-- the name in the definition of an input object
abbrev pub input_object_in_body : NameOf Span → BodyOf Span → Option (NameOf Span)
input_object_in_body name scalar_type = None
input_object_in_body name (object_type interfaces fields) = None
input_object_in_body name (interface_type interfaces fields) = None
input_object_in_body name (union_type members) = None
input_object_in_body name (enum_type values) = None
input_object_in_body name (input_type fields) = Some name

abbrev pub input_object_in : TypeSystemOf Span → Option (NameOf Span)
input_object_in (schema extends description directives roots place) = None
input_object_in (type_definition true description name directives body place) = None
input_object_in (type_definition false description name directives body place) = input_object_in_body name body
input_object_in (directive_definition description name arguments repeatable locations place) = None

-- The definition of an input object that is endless, where it is the one that its name means.
pub record IsEndlessInput (es : List EntryOf) (fault : Fault) : Type 0 where
  pub entry : Numbered
  pub is_judged : Contains (judged es) entry
  pub name : NameOf Span
  pub defines : input_object_in entry.entry.definition ≡ Some name
  pub is_meant : type_number es name.text ≡ Some entry.number
  pub is_endless : IsEndless es name.text
  pub is : fault ≡ fault_at entry.entry.file EndlessInput name

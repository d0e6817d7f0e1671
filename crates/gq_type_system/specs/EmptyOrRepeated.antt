-- A type has at least one of its parts, and no two parts of one name (sections 3.6 to 3.10); no two arguments of a field
-- or of a directive have one name (sections 3.6.1 and 3.13). Extensions count with the type that they extend.
use Rattle.std.specs.Prelude.{◌≡◌, ℕ, ◌<◌, false, List, [], ◌∷◌, Option, Some, Contains, length, map}
use Rattle.gq_text.specs.declared.place.Span.{Span}
use Rattle.gq_fault.specs.declared.code.Code.TheVariants.{EmptyOrRepeated}
use Rattle.gq_fault.specs.declared.fault.Fault.{Fault}
use Rattle.gq_names.specs.Repeats.{IsRepeated}
use Rattle.gq_tree.specs.Plain.{NameOf, DirectiveOf, InputOf, BodyOf, TypeSystemOf, schema, type_definition, directive_definition}
use Rattle.gq_type_system.specs.declared.parts.Part.{Part}
use Rattle.gq_types.specs.Entries.{EntryOf, Numbered}
use Rattle.gq_types.specs.Joined.{In, judged, fields_in_body}
use Rattle.gq_fault.specs.FaultPlaces.{fault_at}
use Rattle.gq_type_system.specs.Parts.{part_names, required_part}

-- a type that is defined and has no part of the kind that it must have
pub record IsEmptyType (es : List EntryOf) (fault : Fault) : Type 0 where
  pub entry : Numbered
  pub is_judged : Contains (judged es) entry
  pub description : Option (NameOf Span)
  pub name : NameOf Span
  pub directives : List (DirectiveOf Span)
  pub body : BodyOf Span
  pub place : Span
  pub defines : entry.entry.definition ≡ type_definition false description name directives body place
  pub part : Part
  pub is_required : required_part body ≡ Some part
  pub is_empty : part_names part es entry.number ≡ []
  pub is : fault ≡ fault_at entry.entry.file EmptyOrRepeated name

-- A part whose name stands earlier among those of its kind. The number is that of any entry. An entry that defines what
-- is built in has no parts.
pub record IsRepeatedPart (es : List EntryOf) (fault : Fault) : Type 0 where
  pub number : ℕ
  pub is_number : number < length es
  pub part : Part
  pub one : In (NameOf Span)
  pub is_repeated : IsRepeated (λ name. name.it.text) (part_names part es number) one
  pub is : fault ≡ fault_at one.file EmptyOrRepeated one.it

-- the arguments of each field, and those of a directive
abbrev pub argument_lists : TypeSystemOf Span → List (List (InputOf Span))
argument_lists (schema extends description directives roots place) = []
argument_lists (type_definition extends description name directives body place) = map (λ f. f.arguments) (fields_in_body body)
argument_lists (directive_definition description name arguments repeatable locations place) = arguments ∷ []

-- an argument whose name stands earlier among the arguments
pub record IsRepeatedArgument (es : List EntryOf) (fault : Fault) : Type 0 where
  pub entry : Numbered
  pub is_judged : Contains (judged es) entry
  pub arguments : List (InputOf Span)
  pub has : Contains (argument_lists entry.entry.definition) arguments
  pub one : InputOf Span
  pub is_repeated : IsRepeated (λ a. a.name.text) arguments one
  pub is : fault ≡ fault_at entry.entry.file EmptyOrRepeated one.name

-- The names that a definition or extension defines, and the names of types that it uses (sections 3.3 to 3.13).
use Rattle.gq_tree.specs.NamedTypes.{named_type}
use Rattle.std.specs.Prelude.{true, false, List, [], ◌∷◌, ◌++◌, map, flat_map}
use Rattle.gq_text.specs.declared.place.Span.{Span}
use Rattle.gq_tree.specs.Plain.{NameOf, InputOf, FieldDefinitionOf, RootOf, BodyOf, TypeSystemOf, schema, type_definition, directive_definition}
use Rattle.gq_type_system.specs.declared.uses.Wants.{Wants}
use Rattle.gq_type_system.specs.declared.uses.Wants.TheVariants.{OutputType, InputType, ObjectMember, InterfaceType, RootOperationType}
use Rattle.gq_types.specs.Joined.{fields_in_body, interfaces_in_body, members_in_body, values_in_body, inputs_in_body}

-- the names of a field and of its arguments
abbrev pub field_names : FieldDefinitionOf Span → List (NameOf Span)
field_names f = f.name ∷ map (λ a. a.name) f.arguments

-- of fields with their arguments, of values, of input fields
abbrev pub names_in_body : BodyOf Span → List (NameOf Span)
names_in_body body = flat_map field_names (fields_in_body body) ++ map (λ v. v.name) (values_in_body body) ++ map (λ i. i.name) (inputs_in_body body)

-- An extension defines its parts, and not the type.
abbrev pub defined_names : TypeSystemOf Span → List (NameOf Span)
defined_names (schema extends description directives roots place) = []
defined_names (type_definition true description name directives body place) = names_in_body body
defined_names (type_definition false description name directives body place) = name ∷ names_in_body body
defined_names (directive_definition description name arguments repeatable locations place) = name ∷ map (λ a. a.name) arguments

-- the name inside lists and types without null (section 3.4.1)
-- the name of a type that is used, and what has to stand there
pub record UseOf : Type 0 where
  pub name : NameOf Span
  pub wants : Wants

-- an argument and an input field (sections 3.6.1 and 3.10)
abbrev pub input_use : InputOf Span → UseOf
input_use i = record { name = named_type i.type_ref; wants = InputType }

-- a field and its arguments (section 3.6)
abbrev pub field_uses : FieldDefinitionOf Span → List UseOf
field_uses f = record { name = named_type f.type_ref; wants = OutputType } ∷ map input_use f.arguments

-- names by themselves
abbrev pub named_uses : Wants → List (NameOf Span) → List UseOf
named_uses wants names = map (λ name. record { name = name; wants = wants }) names

-- the type of a root operation (section 3.3.1)
abbrev pub root_use : RootOf Span → UseOf
root_use r = record { name = r.name; wants = RootOperationType }

abbrev pub uses_in_body : BodyOf Span → List UseOf
uses_in_body body =
    named_uses InterfaceType (interfaces_in_body body) ++ flat_map field_uses (fields_in_body body)
    ++ named_uses ObjectMember (members_in_body body) ++ map input_use (inputs_in_body body)

abbrev pub used_types : TypeSystemOf Span → List UseOf
used_types (schema extends description directives roots place) = map root_use roots
used_types (type_definition extends description name directives body place) = uses_in_body body
used_types (directive_definition description name arguments repeatable locations place) = map input_use arguments

-- Directives and default values in a type system (sections 3.3 to 3.13): a directive is known, may stand at its location, and
-- stands twice only where it is repeatable (section 5.7); its arguments, and the default values of arguments and of input
-- fields, are of their types (sections 5.4 and 5.6).
use Rattle.std.specs.Prelude.{◌≡◌, List, [], ◌∷◌, ◌++◌, Option, Some, None, Contains, map, flat_map}
use Rattle.std.specs.Option.{option_map_or}
use Rattle.gq_text.specs.declared.place.Span.{Span}
use Rattle.gq_fault.specs.declared.code.Code.TheVariants.{BadDirectiveOrDefault}
use Rattle.gq_fault.specs.declared.fault.Fault.{Fault}
use Rattle.gq_tree.specs.declared.type_system.DirectiveLocation.{DirectiveLocation}
use Rattle.gq_tree.specs.declared.type_system.DirectiveLocation.TheVariants as location
use Rattle.gq_tree.specs.Plain.{Val, DirectiveOf, InputOf, FieldDefinitionOf, EnumValueOf, BodyOf, scalar_type, object_type, interface_type, union_type, enum_type, input_type, TypeSystemOf, schema, type_definition, directive_definition}
use Rattle.gq_types.specs.Entries.{Text, EntryOf, Numbered}
use Rattle.gq_types.specs.Joined.{fields_in_body, values_in_body, inputs_in_body, owner, joined, judged}
use Rattle.gq_values.specs.Literals.{default_at}
use Rattle.gq_values.specs.LiteralFaults.{IsLiteralFault}
use Rattle.gq_values.specs.DirectiveFaults.{IsDirectiveFault}

-- a place that may have directives: its location (section 3.13), and the directives that it has
pub record Site : Type 0 where
  pub location : DirectiveLocation
  pub directives : List (DirectiveOf Span)

-- an argument (section 3.6.1), a field with its arguments (section 3.6), a value of an enum (section 3.9), and an input
-- field (section 3.10)
abbrev pub argument_site : InputOf Span → Site
argument_site a = record { location = location.ArgumentDefinition; directives = a.directives }

abbrev pub field_sites : FieldDefinitionOf Span → List Site
field_sites f = record { location = location.FieldDefinition; directives = f.directives } ∷ map argument_site f.arguments

abbrev pub value_site : EnumValueOf Span → Site
value_site v = record { location = location.EnumValue; directives = v.directives }

abbrev pub input_field_site : InputOf Span → Site
input_field_site i = record { location = location.InputFieldDefinition; directives = i.directives }

abbrev pub sites_in_body : BodyOf Span → List Site
sites_in_body body = flat_map field_sites (fields_in_body body) ++ map value_site (values_in_body body) ++ map input_field_site (inputs_in_body body)

-- all places in a definition or extension, but itself
abbrev pub sites_in : TypeSystemOf Span → List Site
sites_in (schema extends description directives roots place) = []
sites_in (type_definition extends description name directives body place) = sites_in_body body
sites_in (directive_definition description name arguments repeatable locations place) = map argument_site arguments

abbrev pub type_location : BodyOf Span → DirectiveLocation
type_location scalar_type = location.Scalar
type_location (object_type interfaces fields) = location.Object
type_location (interface_type interfaces fields) = location.Interface
type_location (union_type members) = location.Union
type_location (enum_type values) = location.Enum
type_location (input_type fields) = location.InputObject

-- the definition or extension itself; no directives stand on the definition of a directive
abbrev pub own_site : TypeSystemOf Span → Option Site
own_site (schema extends description directives roots place) = Some (record { location = location.Schema; directives = directives })
own_site (type_definition extends description name directives body place) = Some (record { location = type_location body; directives = directives })
own_site (directive_definition description name arguments repeatable locations place) = None

abbrev pub directive_names : Site → List Text
directive_names site = map (λ d. d.name.text) site.directives

-- the names of the directives on a definition or extension itself
abbrev pub own_names : EntryOf → List Text
own_names e = option_map_or directive_names (own_site e.definition) []

-- the arguments of fields and of directives, and the input fields
abbrev pub all_inputs : TypeSystemOf Span → List (InputOf Span)
all_inputs (schema extends description directives roots place) = []
all_inputs (type_definition extends description name directives body place) = flat_map (λ f. f.arguments) (fields_in_body body) ++ inputs_in_body body
all_inputs (directive_definition description name arguments repeatable locations place) = arguments

-- what is wrong is told where it is, under one code
abbrev pub told : Fault → Fault
told item = record { file = item.file; start = item.start; code = BadDirectiveOrDefault; end = item.end }

pub data IsBadDirectiveOrDefault (es : List EntryOf) (item : Fault) : Type 0 where
  -- of the directives at a place in a definition or extension
  in_site : {n : Numbered} {site : Site} {fault : Fault} →
      Contains (judged es) n → Contains (sites_in n.entry.definition) site →
      IsDirectiveFault es n.entry.file site.location [] site.directives fault →
      item ≡ told fault → IsBadDirectiveOrDefault es item
  -- Of the directives on a definition or extension itself. A type and its extensions count together, in order: the
  -- directives on those that stand before it stand before its own. So for the schema.
  in_entry : (before : List Numbered) (n : Numbered) (after : List Numbered) {site : Site} {fault : Fault} →
      Contains (judged es) n → joined es (owner es n) ≡ before ++ n ∷ after → own_site n.entry.definition ≡ Some site →
      IsDirectiveFault es n.entry.file site.location (flat_map (λ m. own_names m.entry) before) site.directives fault →
      item ≡ told fault → IsBadDirectiveOrDefault es item
  -- of the default value of an argument or of an input field
  in_default : {n : Numbered} {input : InputOf Span} {default : Val Span} {fault : Fault} →
      Contains (judged es) n → Contains (all_inputs n.entry.definition) input → input.default ≡ Some default →
      IsLiteralFault es n.entry.file (default_at es input.type_ref) default fault →
      item ≡ told fault → IsBadDirectiveOrDefault es item

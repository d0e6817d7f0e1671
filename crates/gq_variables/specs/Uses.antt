-- Uses of variables (section 5.8), and what each is read at.
use Rattle.std.specs.Prelude.{◌≡◌, ℕ, Bool, false, List, Option, Some, None, Contains, is_some, option_and_then}
use Rattle.std.specs.Option.{option_map, option_map_or}
use Rattle.gq_text.specs.declared.place.Span.{Span}
use Rattle.gq_tree.specs.Forest.{none, more}
use Rattle.gq_tree.specs.Plain.{NameOf, Part, Val, Vals, InputOf, DirectiveOf, VariableOf, Head, field, spread, inline, variable}
use Rattle.gq_types.specs.Entries.{Text, EntryOf}
use Rattle.gq_types.specs.Names.{input_named, argument_named}
use Rattle.gq_values.specs.Literals.{Expected, at_type, at_any, items_at, field_at, input_object_at}
use Rattle.gq_values.specs.ArgumentFaults.{argument_at}
use Rattle.gq_types.specs.Arguments.{directive_arguments}
use Rattle.gq_document.specs.Definitions.{OperationOf, FragmentOf}
use Rattle.gq_document.specs.Selections.{selected_field, SelectedOf, IsOfOperation, IsOfFragment}

-- A place in arguments or in a literal: what the value there is read at, and whether the place has a default value.
pub record PlaceOf : Type 0 where
  pub reading : Expected
  pub has_default : Bool

-- whether the definition of an argument or of an input field has a default value (sections 3.6.1 and 3.10)
abbrev pub is_defaulted : Option (InputOf Span) → Bool
is_defaulted input = option_map_or (λ i. is_some i.default) input false

-- The input field of that name in an object literal, where the literal is read at an input object.
abbrev pub input_field_at : List EntryOf → Expected → Text → Option (InputOf Span)
input_field_at es (at_type t) text = option_and_then (λ type_name. input_named es type_name text) (input_object_at es t)
input_field_at es at_any text = None

-- the items of a list literal have no default value
abbrev pub items_place : PlaceOf → PlaceOf
items_place place = record { reading = items_at place.reading; has_default = false }

-- the value of the field of that name in an object literal
abbrev pub field_place : List EntryOf → PlaceOf → Text → PlaceOf
field_place es place text = record { reading = field_at es place.reading text; has_default = is_defaulted (input_field_at es place.reading text) }

-- what stands in the brackets or braces of a literal at a place
abbrev pub part_place : List EntryOf → PlaceOf → Option (NameOf Span) → PlaceOf
part_place es place None = items_place place
part_place es place (Some key) = field_place es place key.text

-- The argument of that name, where the definitions are those of its field or directive; none are given where that is not
-- known.
abbrev pub argument_place : Option (List (InputOf Span)) → Text → PlaceOf
argument_place definitions text = record { reading = argument_at definitions text; has_default = is_defaulted (option_and_then (λ known. argument_named known text) definitions) }

-- A variable that stands in literals in a row, at any depth, and its place, where those of the row are given.
pub data StandsIn (es : List EntryOf) : (Option (NameOf Span) → PlaceOf) → Vals Span → NameOf Span → PlaceOf → Type 0 where
  here : {at : Option (NameOf Span) → PlaceOf} {part : Part Span} {below rest : Vals Span} {name : NameOf Span} {span : Span} →
      part.says ≡ variable name span → StandsIn es at (more part below rest) name (at part.key)
  within : {at : Option (NameOf Span) → PlaceOf} {part : Part Span} {below rest : Vals Span} {name : NameOf Span} {place : PlaceOf} →
      StandsIn es (part_place es (at part.key)) below name place → StandsIn es at (more part below rest) name place
  after : {at : Option (NameOf Span) → PlaceOf} {part : Part Span} {below rest : Vals Span} {name : NameOf Span} {place : PlaceOf} →
      StandsIn es at rest name place → StandsIn es at (more part below rest) name place

-- a variable that is a value, or stands in it
abbrev pub StandsInValue : List EntryOf → PlaceOf → Val Span → NameOf Span → PlaceOf → Type 0
StandsInValue es whole value name place = StandsIn es (λ key. whole) (more value.label value.below none) name place

-- a variable in arguments (section 2.6)
pub record StandsInArguments (es : List EntryOf) (definitions : Option (List (InputOf Span))) (arguments : List (Val Span)) (name : NameOf Span) (place : PlaceOf) : Type 0 where
  pub argument : Val Span
  pub given : Contains arguments argument
  pub key : NameOf Span
  pub is_key : argument.label.key ≡ Some key
  pub stands : StandsInValue es (argument_place definitions key.text) argument name place

-- a variable in the arguments of directives (section 2.12)
pub record StandsInDirectives (es : List EntryOf) (directives : List (DirectiveOf Span)) (name : NameOf Span) (place : PlaceOf) : Type 0 where
  pub directive : DirectiveOf Span
  pub given : Contains directives directive
  pub stands : StandsInArguments es (directive_arguments es directive.name.text) directive.arguments name place

abbrev pub directives_of : Head Span → List (DirectiveOf Span)
directives_of (field alias name arguments directives braces place) = directives
directives_of (spread name directives place) = directives
directives_of (inline on directives braces place) = directives

-- the definitions of the arguments of the field of that name, where the type of its parent is known and has it
abbrev pub field_arguments : List EntryOf → Option Text → Text → Option (List (InputOf Span))
field_arguments es parent text = option_map (λ f. f.arguments) (selected_field es parent text)

-- a variable in the arguments of a selection or in those of its directives; not in the selections below it
pub data StandsInSelection (es : List EntryOf) (parent : Option Text) (head : Head Span) (name : NameOf Span) (place : PlaceOf) : Type 0 where
  in_arguments : {alias : Option (NameOf Span)} {field_name : NameOf Span} {arguments : List (Val Span)} {directives : List (DirectiveOf Span)} {braces : Option Span} {span : Span} →
      head ≡ field alias field_name arguments directives braces span →
      StandsInArguments es (field_arguments es parent field_name.text) arguments name place → StandsInSelection es parent head name place
  in_directives : StandsInDirectives es (directives_of head) name place → StandsInSelection es parent head name place

-- a use of a variable, its place, and the number of the document that it stands in
pub record UseOf : Type 0 where
  pub file : ℕ
  pub name : NameOf Span
  pub place : PlaceOf

-- a use in an operation: in its selections, its directives, and the directives of its variables
pub data IsUsedInOperation (es : List EntryOf) (o : OperationOf) (u : UseOf) : Type 0 where
  in_selection : {s : SelectedOf} → IsOfOperation es o s → u.file ≡ s.file → StandsInSelection es s.parent s.selection.label u.name u.place → IsUsedInOperation es o u
  in_directive : u.file ≡ o.file → StandsInDirectives es o.directives u.name u.place → IsUsedInOperation es o u
  in_variable : {v : VariableOf Span} → u.file ≡ o.file → Contains o.variables v → StandsInDirectives es v.directives u.name u.place → IsUsedInOperation es o u

-- a use in a fragment: in its selections and its directives
pub data IsUsedInFragment (es : List EntryOf) (f : FragmentOf) (u : UseOf) : Type 0 where
  within_selection : {s : SelectedOf} → IsOfFragment es f s → u.file ≡ s.file → StandsInSelection es s.parent s.selection.label u.name u.place → IsUsedInFragment es f u
  within_directive : u.file ≡ f.file → StandsInDirectives es f.directives u.name u.place → IsUsedInFragment es f u

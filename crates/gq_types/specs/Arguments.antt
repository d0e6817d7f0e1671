-- The arguments of a directive (section 3.13), and the names of arguments.
use Rattle.std.specs.Prelude.{List, [], Option, map}
use Rattle.std.specs.Option.{option_map}
use Rattle.gq_text.specs.declared.place.Span.{Span}
use Rattle.gq_tree.specs.Plain.{InputOf, TypeSystemOf, schema, type_definition, directive_definition}
use Rattle.gq_types.specs.Entries.{Text, EntryOf}
use Rattle.gq_types.specs.Names.{directive_named}

abbrev pub argument_texts : List (InputOf Span) → List Text
argument_texts arguments = map (λ a. a.name.text) arguments

-- the arguments in the definition of a directive
abbrev pub arguments_in : TypeSystemOf Span → List (InputOf Span)
arguments_in (schema extends description directives roots place) = []
arguments_in (type_definition extends description name directives body place) = []
arguments_in (directive_definition description name arguments repeatable locations place) = arguments

-- those of the directive of that name, where it is known
abbrev pub directive_arguments : List EntryOf → Text → Option (List (InputOf Span))
directive_arguments es text = option_map arguments_in (directive_named es text)

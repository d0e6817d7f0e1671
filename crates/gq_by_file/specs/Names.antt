-- The names of the operations and fragments that each file defines, and of the fragments that are spread in it.
use Rattle.std.specs.Prelude.{◌≡◌, List, [], ◌∷◌, Option, flat_map, map}
use Rattle.std.specs.Option.{option_map}
use Rattle.gq_text.specs.declared.place.Span.{Span}
use Rattle.gq_tree.specs.Plain.{NameOf, Def, operation, fragment, type_system}
use Rattle.gq_tree.specs.Readings.{ParsedOf, definitions_read}
use Rattle.gq_types.specs.Entries.{Text}
use Rattle.gq_by_file.specs.Closed.Laws.{spreads_read}
use Rattle.gq_by_file.specs.declared.names.FileNames.{FileNames}

abbrev pub texts_of : List (NameOf Span) → List Text
texts_of names = map (λ (n : NameOf Span). n.text) names

abbrev pub text_of_name : Option (NameOf Span) → Option Text
text_of_name name = option_map (λ (n : NameOf Span). n.text) name

-- the name of the operation that a definition is, or that it has none
abbrev pub operation_names_in : Def Span → List (Option (NameOf Span))
operation_names_in (operation kind name variables directives set braces place) = name ∷ []
operation_names_in (fragment name on directives set braces place) = []
operation_names_in (type_system definition) = []

abbrev pub operations_read : ParsedOf → List (Option (NameOf Span))
operations_read r = flat_map operation_names_in (definitions_read r)

-- the name of the fragment that a definition is
abbrev pub fragment_names_in : Def Span → List (NameOf Span)
fragment_names_in (operation kind name variables directives set braces place) = []
fragment_names_in (fragment name on directives set braces place) = name ∷ []
fragment_names_in (type_system definition) = []

abbrev pub fragments_read : ParsedOf → List (NameOf Span)
fragments_read r = flat_map fragment_names_in (definitions_read r)

-- they are those of a document as it is read, in the order of the text
pub record AreNamesIn (r : ParsedOf) (names : FileNames) : Type 0 where
  pub operations : names.operations.items ≡ map text_of_name (operations_read r)
  pub spreads : names.spreads.items ≡ texts_of (spreads_read r)
  pub fragments : names.fragments.items ≡ texts_of (fragments_read r)

-- so of each document
pub data AreNames : List ParsedOf → List FileNames → Type 0 where
  none : AreNames [] []
  more : {r : ParsedOf} {rs : List ParsedOf} {one : FileNames} {names : List FileNames} → AreNamesIn r one → AreNames rs names → AreNames (r ∷ rs) (one ∷ names)

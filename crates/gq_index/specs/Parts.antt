-- What an index keeps of the operations and fragments of a document.
use Rattle.std.specs.Prelude.{Bool, List, [], ◌∷◌, flat_map}
use Rattle.gq_text.specs.declared.place.Span.{Span}
use Rattle.gq_tree.specs.Plain.{NameOf, Def, operation, fragment, type_system}
use Rattle.gq_tree.specs.Readings.{ParsedOf, definitions_read}
use Rattle.gq_index.specs.VariableNames.{used_variables, defined_variables}
use Rattle.gq_index.specs.Occurrences.{is_operation, fragment_name, spreads_in, place_of}

-- whether it is an operation, the place of all its tokens, and the names in it: the one that a fragment is defined under,
-- those in its spreads, and those of the variables that it uses and defines
pub record PartOf : Type 0 where
  pub is_operation : Bool
  pub place : Span
  pub own_name : List (NameOf Span)
  pub spreads : List (NameOf Span)
  pub used : List (NameOf Span)
  pub defined : List (NameOf Span)

abbrev pub part_of : Def Span → PartOf
part_of d = record {
  is_operation = is_operation d;
  place = place_of d;
  own_name = fragment_name d;
  spreads = spreads_in d;
  used = used_variables d;
  defined = defined_variables d;
}

-- of a definition of the type system nothing is kept
abbrev pub part_in : Def Span → List PartOf
part_in (operation kind name variables directives set braces place) = part_of (operation kind name variables directives set braces place) ∷ []
part_in (fragment name on directives set braces place) = part_of (fragment name on directives set braces place) ∷ []
part_in (type_system definition) = []

-- what is kept of a document that is read so
abbrev pub parts_in : ParsedOf → List PartOf
parts_in reading = flat_map part_in (definitions_read reading)

-- Where names of fragments stand, name by name.
use Rattle.std.specs.Prelude.{ℕ, List, [], get_or, position, map}
use Rattle.std.specs.Option.{option_map_or}
use Rattle.std.specs.Str.{bytes_eq}
use Rattle.gq_types.specs.Entries.{Text}
use Rattle.gq_index.specs.declared.fragments.Named.{Named}
use Rattle.gq_index.specs.declared.fragments.Fragments.{Fragments}
use Rattle.gq_index.specs.declared.occurrence.Occurrence.{Occurrence}

-- where a name is defined and where it is spread, both in the order of the texts, and the numbers of the fragments that have it
pub record StandsOf : Type 0 where
  pub definitions : List Occurrence
  pub spreads : List Occurrence
  pub occurrences : List Occurrence
  pub numbers : List ℕ

abbrev pub nowhere : StandsOf
nowhere = record { definitions = []; spreads = []; occurrences = []; numbers = [] }

-- what the code keeps of a name, and of each name; nowhere, where a name is not among them
abbrev pub named_view : Named → StandsOf
named_view n = record { definitions = n.definitions.items; spreads = n.spreads.items; occurrences = n.occurrences.items; numbers = n.numbers.items }

abbrev pub under : List Text → List StandsOf → Text → StandsOf
under names all text = option_map_or (λ at. get_or all at nowhere) (position (bytes_eq text) names) nowhere

abbrev pub stands : Fragments → Text → StandsOf
stands f text = under f.names (map named_view f.named.items) text

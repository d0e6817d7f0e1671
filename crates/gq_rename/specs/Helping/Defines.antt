-- Which definitions define a variable, as an index has it.
use Rattle.std.specs.Prelude.{ℕ, Bool, List, length, not, nat_eq}
use Rattle.gq_index.specs.Occurrences.{DefinitionOf, variable_definitions}

abbrev pub defines : List DefinitionOf → List ℕ → ℕ → Bool
defines ds text n = not (nat_eq (length (variable_definitions ds n text)) 0)

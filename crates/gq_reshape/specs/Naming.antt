-- The names of new fragments (section 2.8).
use Rattle.std.specs.Prelude.{◌≡◌, ℕ, ◌≤◌, ◌<◌, List, [], ◌++◌, codes, decimal}
use Rattle.gq_types.specs.Entries.{Text}
use Rattle.gq_index.specs.Occurrences.{DefinitionOf, fragment_definitions}

-- the name of a new fragment
abbrev pub extracted_name : ℕ → Text
extracted_name n = codes "Extracted" ++ decimal n

-- no fragment of the name is defined
abbrev pub IsFree : List DefinitionOf → Text → Type 0
IsFree ds name = fragment_definitions ds name ≡ []

-- the least number from 1 for which no fragment is called ExtractedN
pub record IsLeastFree (ds : List DefinitionOf) (n : ℕ) : Type 0 where
  pub positive : 1 ≤ n
  pub free : IsFree ds (extracted_name n)
  pub least : (m : ℕ) → 1 ≤ m → m < n → IsFree ds (extracted_name m) → ⊥

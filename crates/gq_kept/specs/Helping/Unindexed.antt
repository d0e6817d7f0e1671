-- What an index keeps nothing of.
use Rattle.std.specs.Prelude.{◌≡◌, ℕ, List, [], flat_map}
use Rattle.gq_text.specs.declared.place.Span.{Span}
use Rattle.gq_tree.specs.Plain.{Def}
use Rattle.gq_index.specs.Occurrences.{executable_in}
use Rattle.gq_index.specs.Parts.{part_in}

-- none of these definitions is an operation or a fragment
pub record AddNothing (ds : List (Def Span)) : Type 0 where
  pub executables : (file : ℕ) → flat_map (executable_in file) ds ≡ []
  pub parts : flat_map part_in ds ≡ []

-- Numbers under names of interfaces, as the look-ups of a type system keep them. No contract of a public call speaks of it.
use Rattle.std.specs.Prelude.{ℕ, ◌+◌, List, [], ◌∷◌, ◌++◌}
use Rattle.std.specs.List.{list_any}
use Rattle.std.specs.Str.{bytes_eq}
use Rattle.gq_names.specs.UnderNames.{one_if}
use Rattle.gq_types.specs.Entries.{Text, EntryOf}
use Rattle.gq_types.specs.LookUps.{declares_in}

-- the numbers of the lists that have the name, the first of which is given
abbrev pub declaring_from : ℕ → List (List Text) → Text → List ℕ
declaring_from k [] text = []
declaring_from k (names ∷ rest) text = one_if (list_any (bytes_eq text) names) k ++ declaring_from (k + 1) rest text

-- the numbers of the entries of types that declare the interface, in order
abbrev pub declarers_from : List EntryOf → ℕ → List EntryOf → Text → List ℕ
declarers_from all k [] interface = []
declarers_from all k (e ∷ es) interface = one_if (declares_in all k interface) k ++ declarers_from all (k + 1) es interface

abbrev pub declarers : List EntryOf → Text → List ℕ
declarers es interface = declarers_from es 0 es interface

-- The judged entries among some whose numbers go on from one, and what is told at each number, computed.
use Rattle.std.specs.Prelude.{ℕ, ◌+◌, List, [], ◌∷◌, ◌++◌, filter, not}
use Rattle.gq_fault.specs.declared.fault.Fault.{Fault}
use Rattle.gq_types.specs.Entries.{EntryOf, Numbered, numbered_from}
use Rattle.gq_types.specs.BuiltIn.{defines_built_in}

abbrev pub judged_from : ℕ → List EntryOf → List Numbered
judged_from number es = filter (λ n. not (defines_built_in n.entry.definition)) (numbered_from number es)

-- at as many numbers as there are entries in a list, from a first number on
abbrev pub at_each_number : (ℕ → List Fault) → ℕ → List EntryOf → List Fault
at_each_number f number [] = []
at_each_number f number (e ∷ es) = f number ++ at_each_number f (number + 1) es

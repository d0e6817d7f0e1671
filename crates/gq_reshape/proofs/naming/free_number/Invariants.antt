use Rattle.std.proofs.Common.{ℕ, ◌≤◌, List}
use Rattle.gq_index.specs.Indexed.{IsIndexOf}
use Rattle.gq_index.specs.Occurrences.{DefinitionOf}
use Rattle.gq_reshape.specs.Naming.{IsFree, extracted_name}
use Rattle.gq_reshape.proofs.naming.free_number.Given as goal

-- the numbers so far are taken
abbrev pub invariant-loop-before : goal.invariant-loop-before
invariant-loop-before l = (ds : List DefinitionOf) → IsIndexOf ds l.index → (m : ℕ) → 1 ≤ m → m ≤ l.before → IsFree ds (extracted_name m) → ⊥

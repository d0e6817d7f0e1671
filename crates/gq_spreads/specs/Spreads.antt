-- Fragments by their numbers, and rows of numbers that lead to those that are reached by spreads (section 5.5.2).
use Rattle.std.specs.Prelude.{◌≡◌, ◌↔◌, ℕ, ◌+◌, ◌<◌, ◌≤◌, All, List, [], ◌∷◌, Some, Contains, flat_map, length, slice_get, bytes_eq, if◌then◌else◌}
use Rattle.std.specs.declared.vec.Vec.{Vec}
use Rattle.std.specs.declared.alloc.Global.{Global}
use Rattle.gq_text.specs.declared.place.Span.{Span}
use Rattle.gq_tree.specs.Names.{spread_names}
use Rattle.gq_tree.specs.Plain.{Sels}
use Rattle.gq_graph.specs.Reach.{Reach, row, InRange}
use Rattle.gq_types.specs.Entries.{Text}
use Rattle.gq_document.specs.Definitions.{OperationOf, FragmentOf}
use Rattle.gq_document.specs.Reaches.{Reaches}
use Rattle.gq_document.specs.Executable.{ExecutableOf}
use Rattle.gq_spreads.specs.declared.spreads.Spreads.{Spreads}

-- the places of a name in a list of names, in order, the first of which has the given number
abbrev pub places_from : ℕ → Text → List Text → List ℕ
places_from k text [] = []
places_from k text (name ∷ names) = if bytes_eq text name then k ∷ places_from (k + 1) text names else places_from (k + 1) text names

-- the number of a fragment that the selection set reaches
pub record ReachesNumber (fs : List FragmentOf) (set : Sels Span) (number : ℕ) : Type 0 where
  pub fragment : FragmentOf
  pub at : slice_get fs number ≡ Some fragment
  pub reached : Reaches fs set fragment

-- The fragments to whose numbers the starts lead by the rows are those that the selection set reaches. Numbers past theirs are no fragments'.
abbrev pub LeadToReached : List FragmentOf → (rows : List (Vec ℕ Global)) → (starts : List ℕ) → Sels Span → Type 0
LeadToReached fs rows starts set = (k : ℕ) → k < length fs → Reach starts (row rows) k ↔ ReachesNumber fs set k

-- For each operation and each fragment a row that leads to the fragments that it reaches. Further rows may stand behind those of fragments.
pub record AreSpreads (x : ExecutableOf) (s : Spreads) : Type 0 where
  pub operations : length s.of_operations.items ≡ length x.operations
  pub fragments : length x.fragments ≤ length s.of_fragments.items
  pub starts : All (λ v. All (λ k. k < length s.of_fragments.items) v.items) s.of_operations.items
  pub range : InRange s.of_fragments.items
  pub of_operation : (n : ℕ) (o : OperationOf) → slice_get x.operations n ≡ Some o → LeadToReached x.fragments s.of_fragments.items (row s.of_operations.items n) o.set
  pub of_fragment : (n : ℕ) (f : FragmentOf) → slice_get x.fragments n ≡ Some f → LeadToReached x.fragments s.of_fragments.items (row s.of_fragments.items n) f.set

-- The rows are few and short: those of operations have no more numbers than there are spreads in operations, and the others no more than there are
-- spreads in fragments, and fragments.
pub record AreShort (x : ExecutableOf) (s : Spreads) : Type 0 where
  pub rows : length s.of_fragments.items ≤ length x.fragments + length x.fragments
  pub of_operations : length (flat_map (λ v. v.items) s.of_operations.items) ≤ length (flat_map (λ o. spread_names o.set) x.operations)
  pub of_fragments : length (flat_map (λ v. v.items) s.of_fragments.items) ≤ length (flat_map (λ f. spread_names f.set) x.fragments) + length x.fragments

-- the numbers of all fragments that the operation of that number reaches
abbrev pub AreReached : ExecutableOf → ℕ → List ℕ → Type 0
AreReached x n numbers = (o : OperationOf) → slice_get x.operations n ≡ Some o → (k : ℕ) → Contains numbers k ↔ ReachesNumber x.fragments o.set k

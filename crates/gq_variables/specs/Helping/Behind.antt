-- The uses behind the spreads of an operation.
use Rattle.std.specs.Prelude.{◌≡◌, ◌↔◌, ◌<◌, ℕ, List, Some, Contains, slice_get}
use Rattle.std.specs.declared.vec.Vec.{Vec}
use Rattle.std.specs.declared.alloc.Global.{Global}
use Rattle.gq_graph.specs.Reach.{Reach, row}
use Rattle.gq_types.specs.Entries.{Text}
use Rattle.gq_document.specs.Definitions.{OperationOf}
use Rattle.gq_spreads.specs.declared.spreads.Spreads.{Spreads}
use Rattle.gq_variables.specs.Uses.{UseOf}
use Rattle.gq_variables.specs.Helping.Alike.{AreAsBefore}
use Rattle.gq_variables.specs.Helping.UsesPlaces.{row_at}

-- a use in a fragment to which the starts lead, where for each fragment there is a row of its uses
pub record IsBehind (rows : List (List UseOf)) (next : ℕ → List ℕ) (starts : List ℕ) (u : UseOf) : Type 0 where
  pub number : ℕ
  pub led : Reach starts next number
  pub stands : Contains (row_at rows number) u

-- all uses in fragments to which the starts lead
abbrev pub AreBehindStarts : List (List UseOf) → List (Vec ℕ Global) → (starts : List ℕ) → List UseOf → Type 0
AreBehindStarts rows of_fragments starts uses = (u : UseOf) → Contains uses u ↔ IsBehind rows (row of_fragments) starts u

-- all uses behind the spreads of the operation of that number
abbrev pub AreBehind : List (List UseOf) → Spreads → ℕ → List UseOf → Type 0
AreBehind rows s number uses = AreBehindStarts rows s.of_fragments.items (row s.of_operations.items number) uses

-- An earlier operation spreads the same as the one of that number, and has a fault at each use of these names at which that one has it.
pub record FollowsItsLike (operations : List OperationOf) (s : Spreads) (names : List Text) (number : ℕ) : Type 0 where
  pub before : ℕ
  pub is_before : before < number
  pub same : row s.of_operations.items before ≡ row s.of_operations.items number
  pub earlier : OperationOf
  pub at_before : slice_get operations before ≡ Some earlier
  pub now : OperationOf
  pub at : slice_get operations number ≡ Some now
  pub alike : AreAsBefore names earlier.variables now.variables

-- Which fragments have to be gone over for the uses of variables. Only contracts of private functions speak of it.
use Rattle.std.specs.Prelude.{◌≡◌, ◌<◌, ◌⊎◌, ℕ, ◌+◌, Bool, true, false, List, [], ◌∷◌, ◌++◌, Some, All, Contains, length, not, nat_eq, slice_get, slice_index_or}
use Rattle.std.specs.declared.vec.Vec.{Vec}
use Rattle.std.specs.declared.alloc.Global.{Global}
use Rattle.gq_names.specs.UnderNames.{one_if}
use Rattle.gq_graph.specs.Reach.{Reach, row, InRange}
use Rattle.gq_document.specs.Definitions.{OperationOf, FragmentOf}
use Rattle.gq_document.specs.Executable.{ExecutableOf}
use Rattle.gq_spreads.specs.Spreads.{ReachesNumber}
use Rattle.gq_spreads.specs.declared.spreads.Spreads.{Spreads}
use Rattle.gq_variables.specs.Uses.{UseOf}
use Rattle.gq_variables.specs.Helping.UsesPlaces.{fragment_uses, row_at}

-- the numbers of the rows that are not empty, the first of which has the given number
abbrev pub numbers_with_uses : ℕ → List (List UseOf) → List ℕ
numbers_with_uses k [] = []
numbers_with_uses k (r ∷ rs) = one_if (not (nat_eq (length r) 0)) k ++ numbers_with_uses (k + 1) rs

-- what has a use is marked, and so is what leads to something that is marked
pub record LeadToUses (next : ℕ → List ℕ) (rows : List (List UseOf)) (marks : List Bool) : Type 0 where
  pub used : (k : ℕ) (u : UseOf) → Contains (row_at rows k) u → slice_index_or marks k false ≡ true
  pub closed : (m k : ℕ) → Contains (next m) k → slice_index_or marks k false ≡ true → slice_index_or marks m false ≡ true

-- Rows by which an operation leads only to fragments that it reaches, and to each of these in which a use stands.
pub record AreLeading (x : ExecutableOf) (s : Spreads) : Type 0 where
  pub operations : length s.of_operations.items ≡ length x.operations
  pub range : InRange s.of_fragments.items
  pub starts : (n : ℕ) → All (λ k. k < length s.of_fragments.items) (row s.of_operations.items n)
  pub sound : (n : ℕ) (o : OperationOf) (k : ℕ) → slice_get x.operations n ≡ Some o → k < length x.fragments →
      Reach (row s.of_operations.items n) (row s.of_fragments.items) k → ReachesNumber x.fragments o.set k
  pub complete : (n : ℕ) (o : OperationOf) (k : ℕ) (f : FragmentOf) (u : UseOf) → slice_get x.operations n ≡ Some o → slice_get x.fragments k ≡ Some f → Contains (fragment_uses x.entries f) u →
      ReachesNumber x.fragments o.set k → Reach (row s.of_operations.items n) (row s.of_fragments.items) k

-- The spreads of operations in two parts; those of fragments stay.
pub record AreInParts (old new : Spreads) (own : List (Vec ℕ Global)) : Type 0 where
  pub fragments : new.of_fragments.items ≡ old.of_fragments.items
  pub count : length new.of_operations.items ≡ length old.of_operations.items
  pub own_count : length own ≡ length old.of_operations.items
  pub of_shared : (n k : ℕ) → Contains (row new.of_operations.items n) k → Contains (row old.of_operations.items n) k
  pub of_own : (n k : ℕ) → Contains (row own n) k → Contains (row old.of_operations.items n) k
  pub all : (n k : ℕ) → Contains (row old.of_operations.items n) k → Contains (row new.of_operations.items n) k ⊎ Contains (row own n) k

-- Rows by either part of which an operation leads only to fragments that it reaches, and by one of which to each of these in which a use stands.
pub record AreLeadingInParts (x : ExecutableOf) (s : Spreads) (own : List (Vec ℕ Global)) : Type 0 where
  pub operations : length s.of_operations.items ≡ length x.operations
  pub own_operations : length own ≡ length x.operations
  pub range : InRange s.of_fragments.items
  pub starts : (n : ℕ) → All (λ k. k < length s.of_fragments.items) (row s.of_operations.items n)
  pub own_starts : (n : ℕ) → All (λ k. k < length s.of_fragments.items) (row own n)
  pub sound : (n : ℕ) (o : OperationOf) (k : ℕ) → slice_get x.operations n ≡ Some o → k < length x.fragments →
      Reach (row s.of_operations.items n) (row s.of_fragments.items) k → ReachesNumber x.fragments o.set k
  pub own_sound : (n : ℕ) (o : OperationOf) (k : ℕ) → slice_get x.operations n ≡ Some o → k < length x.fragments →
      Reach (row own n) (row s.of_fragments.items) k → ReachesNumber x.fragments o.set k
  pub complete : (n : ℕ) (o : OperationOf) (k : ℕ) (f : FragmentOf) (u : UseOf) → slice_get x.operations n ≡ Some o → slice_get x.fragments k ≡ Some f → Contains (fragment_uses x.entries f) u →
      ReachesNumber x.fragments o.set k → Reach (row s.of_operations.items n) (row s.of_fragments.items) k ⊎ Reach (row own n) (row s.of_fragments.items) k

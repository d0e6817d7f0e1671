-- Marks of the entries for which an identical one was found, computed.
use Rattle.std.specs.Prelude.{◌≡◌, ◌↔◌, ◌⊎◌, ℕ, ◌<◌, List, Bool, false, IsTrue, Contains, length, slice_index_or}
use Rattle.gq_text.specs.declared.place.Span.{Span}
use Rattle.gq_names.specs.Repeats.{StandsAt}
use Rattle.gq_tree.specs.Plain.{Val}
use Rattle.gq_merging.specs.SameArguments.{AreIdentical, IsArgument}

-- two values, their names aside
abbrev pub AreAlike : Val Span → Val Span → Type 0
AreAlike v w = AreIdentical v.label.says v.below w.label.says w.below

-- an entry is identical to one of the others
abbrev pub IsAmong : Val Span → List (Val Span) → Type 0
IsAmong a bs = (b : Val Span) × Contains bs b × IsArgument a b

-- an entry is identical to the one at that place
abbrev pub IsSameAt : Val Span → List (Val Span) → ℕ → Type 0
IsSameAt a bs j = (b : Val Span) × StandsAt bs j b × IsArgument a b

abbrev pub is_marked : List Bool → ℕ → Bool
is_marked marks j = slice_index_or marks j false

-- at each of the places stands an entry, and all that are identical to this one stand there
pub record AreItsPlaces (a : Val Span) (bs : List (Val Span)) (places : List ℕ) : Type 0 where
  pub within : (j : ℕ) → Contains places j → j < length bs
  pub each : (j : ℕ) → IsSameAt a bs j → Contains places j

-- marks were set at these places, for what is identical to the entry there
pub record MarksSame (a : Val Span) (bs : List (Val Span)) (places : List ℕ) (old new : List Bool) : Type 0 where
  pub as_many : length new ≡ length old
  pub are : (j : ℕ) → IsTrue (is_marked new j) ↔ (IsTrue (is_marked old j) ⊎ (Contains places j × IsSameAt a bs j))

-- marks were set for all that is identical to the entry
pub record MarksEach (a : Val Span) (bs : List (Val Span)) (old new : List Bool) : Type 0 where
  pub as_many : length new ≡ length old
  pub are : (j : ℕ) → IsTrue (is_marked new j) ↔ (IsTrue (is_marked old j) ⊎ IsSameAt a bs j)

-- an entry is identical to one at these places
abbrev pub IsAmongThese : Val Span → List (Val Span) → List ℕ → Type 0
IsAmongThese a bs places = (j : ℕ) × Contains places j × IsSameAt a bs j

-- each of these entries is identical to one of the others, and the marks are those of the others that are identical to one of these
pub record AllFound (ones bs : List (Val Span)) (marks : List Bool) : Type 0 where
  pub found : (a : Val Span) → Contains ones a → IsAmong a bs
  pub as_many : length marks ≡ length bs
  pub marked : (j : ℕ) → IsTrue (is_marked marks j) ↔ ((a : Val Span) × Contains ones a × IsSameAt a bs j)

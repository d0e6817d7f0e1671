-- No fragment leads back to itself by spreads (section 5.5.2.2), so that the collection of fields ends (section 6.3.2).
use Rattle.std.specs.Prelude.{ℕ, ◌<◌, ◌≤◌, List, length}
use Rattle.gq_meaning.specs.Values.{Text}
use Rattle.gq_meaning.specs.Selected.{Set, none, field, spread, inline}
use Rattle.gq_meaning.specs.Expand.{Definition}
use Rattle.gq_meaning.specs.Thin.{IsIn}

-- every spread in the set, at any depth, is of a lower rank
abbrev pub SpreadsBelow : (Text → ℕ) → ℕ → Set → Type 0
SpreadsBelow rank r none = Unit {0}
SpreadsBelow rank r (field w k n a set rest) = SpreadsBelow rank r set × SpreadsBelow rank r rest
SpreadsBelow rank r (spread w f rest) = (rank f < r) × SpreadsBelow rank r rest
SpreadsBelow rank r (inline w on set rest) = SpreadsBelow rank r set × SpreadsBelow rank r rest

-- The definitions are ranked, below their number, so that each spreads only such of a lower rank.
pub record IsRanked (rank : Text → ℕ) (ds : List Definition) : Type 0 where
  pub each : (d : Definition) → IsIn d ds → SpreadsBelow rank (rank d.name) d.set
  pub low : (d : Definition) → IsIn d ds → rank d.name ≤ length ds

-- There is such a ranking, and the set spreads only ranked fragments.
abbrev pub Rankable : List Definition → Set → Type 0
Rankable ds set = (rank : Text → ℕ) × IsRanked rank ds × SpreadsBelow rank (length ds) set

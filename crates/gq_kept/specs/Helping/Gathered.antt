-- Names of fields that are gathered, without which two type systems are alike.
use Rattle.std.specs.Prelude.{◌≡◌, List, ◌++◌}
use Rattle.gq_types.specs.Entries.{Text}

-- Names came behind those that were there, and what is said holds of them all, whatever names come behind them.
pub record Gathered (before after : List Text) (Holds : List Text → Type 0) : Type 0 where
  pub added : List Text
  pub behind : after ≡ before ++ added
  pub holds : (more : List Text) → Holds (after ++ more)

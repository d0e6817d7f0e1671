-- Where the selections of a set stand that has a run, in the tree of a text.
use Rattle.std.specs.Prelude.{ℕ, ◌≤◌, [], ◌∷◌, ◌++◌, Contains}
use Rattle.gq_text.specs.declared.place.Span.{Span}
use Rattle.gq_tree.specs.Plain.{Sel, Sels}
use Rattle.gq_laws.specs.Rewriting.Places.{AreNested}
use Rattle.gq_select.specs.Choice.{begin_of, end_of, IsRun}

-- those of the run stand in its place, and those before and behind it stand beside that
pub record OnlyRunTouches {start end : ℕ} {selections run : Sels Span} (r : IsRun start end selections run) : Type 0 where
  pub before : (s : Sel Span) → Contains r.before s → end_of s ≤ start
  pub begin_in : (s : Sel Span) → Contains (r.inside ++ r.last ∷ []) s → start ≤ begin_of s
  pub end_in : (s : Sel Span) → Contains (r.inside ++ r.last ∷ []) s → end_of s ≤ end
  pub behind : (s : Sel Span) → Contains r.behind s → end ≤ begin_of s

-- so it is of selections that stand one after the other, as those of a set in the tree of a text
abbrev pub RunsTouchTheirPlace : Type 0
RunsTouchTheirPlace = (from to start end : ℕ) (selections run : Sels Span) → AreNested from to selections → (r : IsRun start end selections run) → OnlyRunTouches r

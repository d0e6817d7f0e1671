-- The rule of the history, and what a step of it tells.
use Rattle.std.specs.Prelude.{ℕ, ◌≡◌, ◌==◌, true, List, [], ◌∷◌, ◌++◌, length, MatchBool}
use Rattle.logbook.specs.Pages.{Cell, Step, View, Book, Named}
use Rattle.gq_project.specs.declared.document.DocChange.{DocChange}

-- the first word is the length of the history. A book has two words, of which this one leaves the second at 0
abbrev pub IsCounted : List Cell → List DocChange → Type 0
IsCounted cells log = cells ≡ (length log, true) ∷ (0, true) ∷ []

-- the history's word
abbrev pub head_of : Book → Named
head_of b = record { tracked = true; key = 0; book = b }

-- the change was added to all that had been seen; or the history was longer, and was seen
abbrev pub Adds : Step DocChange → View DocChange ℕ → ℕ → View DocChange ℕ → Type 0
Adds s v found w = MatchBool (found == s.old) (w.0 ≡ v.0 ++ s.ask ∷ []) (length w.0 ≡ found)

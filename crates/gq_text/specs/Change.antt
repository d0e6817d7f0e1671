-- Texts, and changes of them.
use Rattle.std.specs.Prelude.{ℕ, ◌≤◌, ◌^◌, min, max, List, [], ◌∷◌, length}
use Rattle.gq_text.specs.declared.place.PositionEncoding.{PositionEncoding}
use Rattle.gq_text.specs.declared.text.Change.{Change}
use Rattle.gq_text.specs.declared.text.Change.TheVariants.{Whole, Part}
use Rattle.gq_text.specs.Place.{off}
use Rattle.gq_text.specs.Bytes.{spliced}

-- the text after one change: a whole text, or a range replaced, whose ends may stand in either order (offsets never fall
-- as positions rise, so the smaller offset is that of the end that stands first)
abbrev pub after_change : PositionEncoding → List ℕ → Change → List ℕ
after_change encoding t (Whole text) = text
after_change encoding t (Part range text) =
    let a = off encoding t range.start in
    let b = off encoding t range.end in
    spliced t (min a b) (max a b) text

-- the text after all changes, each of the result of the one before
abbrev pub after_changes : PositionEncoding → List ℕ → List Change → List ℕ
after_changes encoding t [] = t
after_changes encoding t (c ∷ cs) = after_changes encoding (after_change encoding t c) cs

-- each change leaves a text of at most 4 MiB
abbrev pub FitEach : PositionEncoding → List ℕ → List Change → Type 0
FitEach encoding t [] = Unit {0}
FitEach encoding t (c ∷ cs) = (length (after_change encoding t c) ≤ 2 ^ 22) × FitEach encoding (after_change encoding t c) cs

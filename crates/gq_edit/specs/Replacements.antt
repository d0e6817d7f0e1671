-- Replacements in one text.
use Rattle.std.specs.Prelude.{ℕ, ◌≤◌, List, [], ◌∷◌}
use Rattle.std.specs.Str.{IsCharBoundary}
use Rattle.gq_text.specs.declared.replacement.Replacement.{Replacement}

-- each span begins where the one before it ends or later, the first at `from` or later, and ends where it begins or later
abbrev pub AreDisjointFrom : ℕ → List Replacement → Type 0
AreDisjointFrom from [] = Unit {0}
AreDisjointFrom from (r ∷ rs) = (from ≤ r.span.start) × (r.span.start ≤ r.span.end) × AreDisjointFrom r.span.end rs

-- the spans are in order and do not overlap
abbrev pub AreDisjoint : List Replacement → Type 0
AreDisjoint rs = AreDisjointFrom 0 rs

-- both ends of each span lie in the text, where a character begins or the text ends
abbrev pub FitText : List ℕ → List Replacement → Type 0
FitText text [] = Unit {0}
FitText text (r ∷ rs) = IsCharBoundary text r.span.start × IsCharBoundary text r.span.end × FitText text rs

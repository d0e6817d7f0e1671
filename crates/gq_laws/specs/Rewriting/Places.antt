-- Where the selections of a document stand, and consecutive ones of a set.
use Rattle.std.specs.Prelude.{◌≡◌, ℕ, ◌+◌, ◌≤◌, ◌<◌, List, [], ◌∷◌, Option, Some, None}
use Rattle.gq_text.specs.declared.place.Span.{Span}
use Rattle.gq_tree.specs.Forest.{none, more}
use Rattle.gq_tree.specs.Plain as tree
use Rattle.gq_tree.specs.Plain.{Head, Sel, Sels, Def, operation, fragment, type_system}
use Rattle.gq_rewritten.specs.Rewrites.{head_place}

-- a spread has no selections in braces
abbrev pub HoldsNone : Head Span → Sels Span → Type 0
HoldsNone (tree.field alias name arguments directives braces place) below = Unit {0}
HoldsNone (tree.spread name directives place) below = below ≡ none
HoldsNone (tree.inline on directives braces place) below = Unit {0}

-- Selections stand between two bounds, one after the other, and what stands below one begins behind its begin and ends with it or before.
abbrev pub AreNested : (from to : ℕ) → Sels Span → Type 0
AreNested from to none = Unit {0}
AreNested from to (more head below rest) =
    (from ≤ (head_place head).start) × ((head_place head).start < (head_place head).end) × ((head_place head).end ≤ to)
    × AreNested ((head_place head).start + 1) (head_place head).end below × AreNested (head_place head).end to rest × HoldsNone head below

-- where consecutive selections start, and where they end
abbrev pub run_start : List (Sel Span) → Option ℕ
run_start [] = None
run_start (s ∷ ss) = Some (head_place s.label).start

abbrev pub run_end : List (Sel Span) → Option ℕ
run_end [] = None
run_end (s ∷ []) = Some (head_place s.label).end
run_end (s ∷ t ∷ ss) = run_end (t ∷ ss)

-- The definitions of a document stand one after the other behind a bound, and the selections of each in it.
abbrev pub AreInPlace : (from : ℕ) → List (Def Span) → Type 0
AreInPlace from [] = Unit {0}
AreInPlace from (operation kind name variables directives set braces place ∷ ds) = (from ≤ place.start) × (place.start < place.end) × AreNested place.start place.end set × AreInPlace place.end ds
AreInPlace from (fragment name on directives set braces place ∷ ds) = (from ≤ place.start) × (place.start < place.end) × AreNested place.start place.end set × AreInPlace place.end ds
AreInPlace from (type_system definition ∷ ds) = AreInPlace from ds

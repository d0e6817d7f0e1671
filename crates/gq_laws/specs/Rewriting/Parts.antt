-- Where the parts of a document's tree stand in its text: they begin and end where tokens do, and cut no character.
use Rattle.std.specs.Prelude.{ℕ, ◌+◌, ◌-◌, ◌≤◌, List, [], ◌∷◌}
use Rattle.std.specs.List.{AllByRecursion}
use Rattle.std.specs.Str.{IsUtf8, IsCharBoundary}
use Rattle.gq_text.specs.declared.place.Span.{Span}
use Rattle.gq_tree.specs.Plain.{DirectiveOf, Head, field, spread, inline, Def, operation, fragment, type_system}
use Rattle.gq_parse.specs.Derives.{Derives}
use Rattle.gq_laws.specs.Rewriting.KnownBefore.{Each}

-- a place between two ends, of which something holds
abbrev pub PlaceEnds : (ℕ → Type 0) → Span → Type 0
PlaceEnds IsEnd place = (place.start ≤ place.end) × IsEnd place.start × IsEnd place.end

-- what stands between braces
abbrev pub between : Span → Span
between braces = record { start = braces.start + 1; end = braces.end - 1 }

-- directives, the first of which begins at a bound or behind it: each stands between such ends, and begins where the one before it ends or later
abbrev pub DirectivesEnd : (ℕ → Type 0) → ℕ → List (DirectiveOf Span) → Type 0
DirectivesEnd IsEnd at [] = Unit {0}
DirectivesEnd IsEnd at (d ∷ ds) = (at ≤ d.place.start) × PlaceEnds IsEnd d.place × DirectivesEnd IsEnd d.place.end ds

-- a spread and its directives; an inline fragment, and what stands between its braces
abbrev pub HeadEnds : (ℕ → Type 0) → Head Span → Type 0
HeadEnds IsEnd (field alias name arguments directives braces place) = Unit {0}
HeadEnds IsEnd (spread name directives place) = PlaceEnds IsEnd place × DirectivesEnd IsEnd 0 directives
HeadEnds IsEnd (inline on directives braces place) = PlaceEnds IsEnd place × PlaceEnds IsEnd (between braces)

-- a fragment, its braces, and the selections of a definition
abbrev pub DefinitionEnds : (ℕ → Type 0) → Def Span → Type 0
DefinitionEnds IsEnd (operation kind name variables directives set braces place) = Each (HeadEnds IsEnd) set
DefinitionEnds IsEnd (fragment name on directives set braces place) = PlaceEnds IsEnd place × PlaceEnds IsEnd braces × Each (HeadEnds IsEnd) set
DefinitionEnds IsEnd (type_system definition) = Unit {0}

-- a place in a text, directives, a selection and a definition that cut no character
abbrev pub IsPartOf : List ℕ → Span → Type 0
IsPartOf text = PlaceEnds (IsCharBoundary text)

abbrev pub DirectivesFit : List ℕ → ℕ → List (DirectiveOf Span) → Type 0
DirectivesFit text = DirectivesEnd (IsCharBoundary text)

abbrev pub HeadFits : List ℕ → Head Span → Type 0
HeadFits text = HeadEnds (IsCharBoundary text)

abbrev pub DefinitionFits : List ℕ → Def Span → Type 0
DefinitionFits text = DefinitionEnds (IsCharBoundary text)

-- In the tree of a text all of them cut no character of the text.
abbrev pub TreesCutNoCharacter : Type 0
TreesCutNoCharacter = (text : List ℕ) (document : List (Def Span)) → IsUtf8 text → Derives text document → AllByRecursion (DefinitionFits text) document

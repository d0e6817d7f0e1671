-- Where the tokens of a text stand in it.
use Rattle.std.specs.Prelude.{◌≡◌, ℕ, ◌<◌, ◌≤◌, List, [], ◌∷◌, length}
use Rattle.std.specs.List.{slice_range}
use Rattle.std.specs.Str.{IsCharBoundary}
use Rattle.gq_lex.specs.Tokens.{Lexeme}

-- From the place at on, the tokens stand in the text one behind another, each with the text of its span.
abbrev pub StandIn : List ℕ → ℕ → List Lexeme → Type 0
StandIn text at [] = at ≤ length text
StandIn text at (t ∷ ts) = (at ≤ t.span.start) × (t.span.start < t.span.end) × (t.text ≡ slice_range text t.span.start t.span.end) × StandIn text t.span.end ts

-- the token begins and ends where no character of the text is cut
abbrev pub IsCutOf : List ℕ → Lexeme → Type 0
IsCutOf text t = IsCharBoundary text t.span.start × IsCharBoundary text t.span.end

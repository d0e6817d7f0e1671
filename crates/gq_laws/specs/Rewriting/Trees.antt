-- The trees of texts.
use Rattle.std.specs.Prelude.{ℕ, List}
use Rattle.gq_text.specs.declared.place.Span.{Span}
use Rattle.gq_tree.specs.Plain.{Def}
use Rattle.gq_parse.specs.Derives.{Derives}
use Rattle.gq_laws.specs.Rewriting.Places.{AreInPlace}

-- In the tree of a text all definitions and selections are in place.
abbrev pub TreesAreInPlace : Type 0
TreesAreInPlace = (text : List ℕ) (document : List (Def Span)) → Derives text document → AreInPlace 0 document

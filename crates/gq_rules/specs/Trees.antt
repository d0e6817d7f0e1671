-- Which texts have a tree (section 2.2).
use Rattle.std.specs.Prelude.{ℕ, List}
use Rattle.gq_text.specs.declared.place.Span.{Span}
use Rattle.gq_tree.specs.Plain.{Def}
use Rattle.gq_parse.specs.Derives.{Derives}

-- the text is a document: its definitions
pub record HasTree (text : List ℕ) : Type 0 where
  pub tree : List (Def Span)
  pub derives : Derives text tree

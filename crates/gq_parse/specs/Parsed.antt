-- The trees of the documents of a project.
use Rattle.std.specs.Prelude.{ℕ, List, [], ◌∷◌}
use Rattle.gq_text.specs.declared.place.Span.{Span}
use Rattle.gq_tree.specs.Plain.{Def}
use Rattle.gq_project.specs.declared.document.Doc.{Doc}
use Rattle.gq_parse.specs.Derives.{Derives}
use Rattle.gq_parse.specs.Faults.{IsSyntaxFault, IsLimitFault}
use Rattle.gq_tree.specs.Readings.{ParsedOf}
use Rattle.gq_tree.specs.Readings as reading

-- the text has no tree
abbrev pub HasNoTree : List ℕ → Type 0
HasNoTree text = (document : List (Def Span)) → Derives text document → ⊥

-- the tree of the text, or the place of the fault by which it has none
abbrev pub IsParsed : List ℕ → ParsedOf → Type 0
IsParsed text (reading.tree document) = Derives text document
IsParsed text (reading.syntax place) = HasNoTree text × IsSyntaxFault text place
IsParsed text (reading.limit place) = HasNoTree text × IsLimitFault text place

-- one reading for each document, in order
pub data AreParsed : List Doc → List ParsedOf → Type 0 where
  none : AreParsed [] []
  more : {document : Doc} {documents : List Doc} {one : ParsedOf} {readings : List ParsedOf} →
      IsParsed document.text one → AreParsed documents readings → AreParsed (document ∷ documents) (one ∷ readings)

-- What the documents of a project are read as (section 2.2).
use Rattle.std.specs.Prelude.{ℕ, List, [], map, flat_map}
use Rattle.std.specs.List.{enumerate_from}
use Rattle.std.specs.Arc.{arc_value}
use Rattle.std.specs.declared.alloc.Global.{Global}
use Rattle.std.specs.declared.sync.Arc.{Arc}
use Rattle.gq_text.specs.declared.place.Span.{Span}
use Rattle.gq_tree.specs.Plain.{Def}
use Rattle.gq_tree.specs.Views.{document_view}
use Rattle.gq_tree.specs.declared.parsed.Parsed.{Parsed}
use Rattle.gq_tree.specs.declared.parsed.Parsed.TheVariants as parsed

-- the definitions of a text, or the place at which it shows that it has none: the text is no document, or it passes a limit
pub data ParsedOf : Type 0 where
  tree : List (Def Span) → ParsedOf
  syntax : ℕ → ParsedOf
  limit : ℕ → ParsedOf

-- the definitions of a document as it is read; none where it has no tree
abbrev pub definitions_read : ParsedOf → List (Def Span)
definitions_read (tree definitions) = definitions
definitions_read (syntax place) = []
definitions_read (limit place) = []

-- what the definitions of the documents are, the first document having the number 0
abbrev pub in_document : {A : Type 0} → (ℕ → Def Span → List A) → ℕ → ParsedOf → List A
in_document what file reading = flat_map (what file) (definitions_read reading)

abbrev pub in_documents : {A : Type 0} → (ℕ → Def Span → List A) → List ParsedOf → List A
in_documents what readings = flat_map (λ r. in_document what r.0 r.1) (enumerate_from 0 readings)

-- what the code's reading of a text stands for
abbrev pub parsed_view : Parsed → ParsedOf
parsed_view (parsed.Tree document) = tree (document_view document)
parsed_view (parsed.Syntax place) = syntax place
parsed_view (parsed.Limit place) = limit place

-- of readings that are not shared yet
abbrev pub unshared_view : List Parsed → List ParsedOf
unshared_view readings = map parsed_view readings

-- a reading that may have several owners
abbrev pub SharedParsed : Type 0
SharedParsed = Arc Parsed Global

abbrev pub shared_view : SharedParsed → ParsedOf
shared_view reading = parsed_view (arc_value reading)

abbrev pub readings_view : List SharedParsed → List ParsedOf
readings_view readings = map shared_view readings

-- Where the name that a rename would change stands.
use Rattle.std.specs.Prelude.{◌≡◌, ℕ, ◌≤◌, List, Some, find}
use Rattle.std.specs.Str.{IsCharBoundary}
use Rattle.gq_text.specs.declared.place.Span.{Span}
use Rattle.gq_project.specs.declared.document.Doc.{Doc}
use Rattle.gq_project.specs.Documents.{has_key}
use Rattle.gq_rename.specs.Prepare.{IsPrepared}
use Rattle.gq_rename.specs.Sound.{AreUtf8}

-- A span at which a text can be cut: its ends are in order, and stand in the text between characters.
pub record CanBeCut (text : List ℕ) (span : Span) : Type 0 where
  pub order : span.start ≤ span.end
  pub start : IsCharBoundary text span.start
  pub end : IsCharBoundary text span.end

-- so can the text of the document of that key, which is there
pub record StandsUnder (documents : List Doc) (key : List ℕ) (span : Span) : Type 0 where
  pub document : Doc
  pub there : find (has_key key) documents ≡ Some document
  pub can_be_cut : CanBeCut document.text span

-- the name that a rename would change stands in the text that it is prepared in
abbrev pub PreparedNamesStandInTexts : Type 0
PreparedNamesStandInTexts = (documents : List Doc) (key : List ℕ) (offset : ℕ) (span : Span) → AreUtf8 documents → IsPrepared documents key offset (Some span) → StandsUnder documents key span

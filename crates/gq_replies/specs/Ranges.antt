-- Spans of bytes as ranges by positions (LSP 3.17, "Range").
use Rattle.std.specs.Prelude.{ℕ, List}
use Rattle.gq_text.specs.Place.{pos}
use Rattle.gq_text.specs.declared.place.PositionEncoding.{PositionEncoding}
use Rattle.gq_text.specs.declared.place.Span.{Span}
use Rattle.gq_text.specs.declared.text.Range.{Range}

-- the positions of both ends of the span in the text
abbrev pub range_of : PositionEncoding → List ℕ → Span → Range
range_of encoding text span = record { start = pos encoding text span.start; end = pos encoding text span.end }

-- Where something stands in a project, as locations (LSP 3.17, "Location").
use Rattle.std.specs.Prelude.{List, slice_get, option_map}
use Rattle.std.specs.List.{filter_map}
use Rattle.gq_text.specs.declared.place.PositionEncoding.{PositionEncoding}
use Rattle.gq_project.specs.declared.document.Doc.{Doc}
use Rattle.gq_index.specs.declared.occurrence.Occurrence.{Occurrence}
use Rattle.gq_rpc.specs.declared.messages.Location.{Location}
use Rattle.gq_replies.specs.Ranges.{range_of}

-- under the URI of the document, by positions in its text
abbrev pub location_in : PositionEncoding → Occurrence → Doc → Location
location_in encoding occurrence document = record { uri = document.uri; range = range_of encoding document.text occurrence.span }

-- each in its own document, in order
abbrev pub locations_of : PositionEncoding → List Doc → List Occurrence → List Location
locations_of encoding documents occurrences = filter_map (λ o. option_map (location_in encoding o) (slice_get documents o.file)) occurrences

-- The forms in which faults are printed: a line of text, an object of JSON, a workflow command of GitHub.
use Rattle.std.specs.Prelude.{ℕ, ◌+◌, ◌==◌, List, [], ◌∷◌, ◌++◌, codes, decimal, if◌then◌else◌}
use Rattle.std.specs.List.{flat_map}
use Rattle.json.specs.Print.{quoted}
use Rattle.gq_text.specs.Place.{pos}
use Rattle.gq_text.specs.declared.place.PositionEncoding.{PositionEncoding}
use Rattle.gq_text.specs.declared.place.PositionEncoding.TheVariants.{Utf8, Utf16}
use Rattle.gq_text.specs.declared.place.Position.{Position}
use Rattle.gq_text.specs.declared.place.Span.{Span}
use Rattle.gq_text.specs.declared.text.Range.{Range}
use Rattle.gq_project.specs.declared.document.Doc.{Doc}
use Rattle.gq_fault.specs.Codes.{text_of}
use Rattle.gq_fault.specs.declared.found.Found.{Found}
use Rattle.gq_diagnostics.specs.Words.{words_of}
use Rattle.gq_check.specs.declared.formats.Format.{Format}
use Rattle.gq_check.specs.declared.formats.Format.TheVariants.{Text, Json, Github}
use Rattle.gq_check.specs.Lines.{text_at, line_at}
use Rattle.gq_check.specs.Sections.{section_of}

-- ---- workflow commands

-- what would end a property of a workflow command, or a command, is written by its number
abbrev pub escaped_byte : ℕ → List ℕ
escaped_byte b =
    if b == 37 then codes "%25" else if b == 13 then codes "%0D" else if b == 10 then codes "%0A" else if b == 58 then codes "%3A" else if b == 44 then codes "%2C" else b ∷ []

-- what stands behind the name of the file: where the fault starts, and what it is
abbrev pub command_tail : Found → Position → List ℕ
command_tail found position =
    codes ",line=" ++ decimal (position.line + 1) ++ codes ",col=" ++ decimal (position.character + 1) ++ codes "::"
    ++ text_of found.code ++ codes " " ++ words_of found.code ++ codes "\n"

-- the command that marks a fault that starts there; lines and columns are counted from 1
abbrev pub command_at : Found → Position → List ℕ
command_at found position =
    codes "::error file=" ++ flat_map escaped_byte found.key ++ command_tail found position

-- ---- objects

-- a position, its line and column counted from 1
abbrev pub position_object : Position → List ℕ
position_object p = codes "{\"line\":" ++ decimal (p.line + 1) ++ codes ",\"column\":" ++ decimal (p.character + 1) ++ codes "}"

abbrev pub range_object : Range → List ℕ
range_object r = codes "{\"start\":" ++ position_object r.start ++ codes ",\"end\":" ++ position_object r.end ++ codes "}"

-- what is wrong in which file, and the section of the specification that says so
abbrev pub object_front : Found → List ℕ
object_front found =
    codes "{\"file\":" ++ quoted found.key ++ codes ",\"code\":\"" ++ text_of found.code ++ codes "\",\"words\":\"" ++ words_of found.code
    ++ codes "\",\"section\":\"https://spec.graphql.org/October2021/#sec-" ++ section_of found.code

-- where it is: columns count UTF-16 code units, and bytes
abbrev pub object_ranges : Range → Range → List ℕ
object_ranges in_units in_bytes = codes "\",\"range\":{\"utf-16\":" ++ range_object in_units ++ codes ",\"utf-8\":" ++ range_object in_bytes ++ codes "}}\n"

-- the object of a fault, on a line
abbrev pub object_at : Found → Range → Range → List ℕ
object_at found in_units in_bytes = object_front found ++ object_ranges in_units in_bytes

-- ---- all forms

-- the positions of both ends of a span in a text (LSP 3.17, "Range")
abbrev pub range_in : PositionEncoding → List ℕ → Span → Range
range_in encoding text span = record { start = pos encoding text span.start; end = pos encoding text span.end }

-- a fault between these positions
abbrev pub printed_at : Format → Found → Range → Range → List ℕ
printed_at Text found in_units in_bytes = line_at found in_units.start
printed_at Json found in_units in_bytes = object_at found in_units in_bytes
printed_at Github found in_units in_bytes = command_at found in_units.start

-- a fault of documents
abbrev pub printed : Format → List Doc → Found → List ℕ
printed format documents found =
    printed_at format found (range_in Utf16 (text_at documents found.key) found.span) (range_in Utf8 (text_at documents found.key) found.span)

-- one after the other
abbrev pub printed_all : Format → List Doc → List Found → List ℕ
printed_all format documents found = flat_map (printed format documents) found

-- what is printed of a valid project
abbrev pub valid_text : Format → List ℕ
valid_text Text = codes "ok\n"
valid_text Json = []
valid_text Github = []

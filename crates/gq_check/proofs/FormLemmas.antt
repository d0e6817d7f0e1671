-- The parts of what is printed of a fault, joined.
use Rattle.std.proofs.Common.{◌≡◌, ℕ, ◌+◌, List, ◌++◌, ◌∙◌, append_assoc}
use Rattle.std.specs.Prelude.{codes, decimal}
use Rattle.json.specs.Print.{quoted}
use Rattle.gq_text.specs.declared.place.Position.{Position}
use Rattle.gq_text.specs.declared.text.Range.{Range}
use Rattle.gq_fault.specs.Codes.{text_of}
use Rattle.gq_fault.specs.declared.found.Found.{Found}
use Rattle.gq_diagnostics.specs.Words.{words_of}
use Rattle.gq_check.specs.Formats.{range_object, object_front, object_ranges}
use Rattle.gq_check.specs.Lines.{line_at}
use Rattle.gq_check.specs.Sections.{section_of}
use Rattle.gq_check.specs.Reasons.{reason_line}
use Rattle.gq_check.specs.Flaws.{row_flaw, numbered_flaw}
use Rattle.serde_json.specs.Data.{Data}

-- ten parts, eight, five, and four
ten : (a b c d e f g h i j : List ℕ) → a ++ (b ++ (c ++ (d ++ (e ++ (f ++ (g ++ (h ++ (i ++ j)))))))) ≡ a ++ b ++ c ++ d ++ e ++ f ++ g ++ h ++ i ++ j
ten a b c d e f g h i j = simp append_assoc

eight : (a b c d e f g h : List ℕ) → a ++ (b ++ (c ++ (d ++ (e ++ (f ++ (g ++ h)))))) ≡ a ++ b ++ c ++ d ++ e ++ f ++ g ++ h
eight a b c d e f g h = simp append_assoc

five : (a b c d e : List ℕ) → a ++ (b ++ (c ++ (d ++ e))) ≡ a ++ b ++ c ++ d ++ e
five a b c d e = simp append_assoc

four : (a b c d : List ℕ) → a ++ (b ++ (c ++ d)) ≡ a ++ b ++ c ++ d
four a b c d = simp append_assoc

-- a line of text
pub line-joined : (found : Found) (position : Position) (text key code words : List ℕ) (line column : ℕ) → key ≡ found.key → line ≡ position.line + 1 → column ≡ position.character + 1 → code ≡ text_of found.code → words ≡ words_of found.code
    → text ≡ key ++ (codes ":" ++ (decimal line ++ (codes ":" ++ (decimal column ++ (codes ": " ++ (code ++ (codes " " ++ (words ++ codes "\n"))))))))
    → text ≡ line_at found position
line-joined found position text key code words line column a b c d e is =
    rw (is, a, b, c, d, e)
    (ten found.key (codes ":") (decimal (position.line + 1)) (codes ":") (decimal (position.character + 1)) (codes ": ") (text_of found.code) (codes " ") (words_of found.code) (codes "\n"))

-- the front of an object
pub front-joined : (found : Found) (text file code words section : List ℕ) → file ≡ quoted found.key → code ≡ text_of found.code → words ≡ words_of found.code → section ≡ section_of found.code
    → text ≡ codes "{\"file\":" ++ (file ++ (codes ",\"code\":\"" ++ (code ++ (codes "\",\"words\":\"" ++ (words ++ (codes "\",\"section\":\"https://spec.graphql.org/October2021/#sec-" ++ section))))))
    → text ≡ object_front found
front-joined found text file code words section a b c d is =
    rw (is, a, b, c, d)
    (eight (codes "{\"file\":") (quoted found.key) (codes ",\"code\":\"") (text_of found.code) (codes "\",\"words\":\"") (words_of found.code)
    (codes "\",\"section\":\"https://spec.graphql.org/October2021/#sec-") (section_of found.code))

-- the ranges behind it
pub ranges-joined : (in_units in_bytes : Range) (text units bytes : List ℕ) → units ≡ range_object in_units → bytes ≡ range_object in_bytes
    → text ≡ codes "\",\"range\":{\"utf-16\":" ++ (units ++ (codes ",\"utf-8\":" ++ (bytes ++ codes "}}\n"))) → text ≡ object_ranges in_units in_bytes
ranges-joined in_units in_bytes text units bytes a b is =
    rw (is, a, b) (five (codes "\",\"range\":{\"utf-16\":") (range_object in_units) (codes ",\"utf-8\":") (range_object in_bytes) (codes "}}\n"))

-- the line that says why a file is at fault
pub reason-joined : (name why line : List ℕ) → line ≡ codes "gqls: " ++ (name ++ (codes ": " ++ (why ++ codes "\n"))) → line ≡ reason_line name why
reason-joined name why line is = is ∙ five (codes "gqls: ") name (codes ": ") why (codes "\n")

-- what is said of a row of that number
pub numbered-joined : (number : ℕ) (row : Data) (flaw text : List ℕ) → flaw ≡ row_flaw row
    → text ≡ codes "row " ++ (decimal number ++ (codes ": " ++ flaw)) → text ≡ numbered_flaw number row
numbered-joined number row flaw text a is = rw (is, a) (four (codes "row ") (decimal number) (codes ": ") (row_flaw row))

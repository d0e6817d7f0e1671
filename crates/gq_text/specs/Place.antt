-- Lines and positions of a text (LSP 3.17, "Text Documents" and "Position"). A text is a list of characters, `chars bs`
-- for the bytes `bs`.
use Rattle.std.specs.Prelude.{ℕ, zero, suc, ◌+◌, ◌-◌, Bool, not, ◌&&◌, ◌||◌, ◌==◌, nat_lt, nat_le, if◌then◌else◌, List, [], ◌∷◌, slice_index, sum_by, take_while}
use Rattle.std.specs.Char.{len_utf8}
use Rattle.std.specs.Str.{chars}
use Rattle.gq_text.specs.declared.place.Position.{Position}
use Rattle.gq_text.specs.declared.place.PositionEncoding.{PositionEncoding}
use Rattle.gq_text.specs.declared.place.PositionEncoding.TheVariants.{Utf8, Utf16}

-- LF and CR
abbrev pub line_feed : ℕ
line_feed = 10

abbrev pub carriage_return : ℕ
carriage_return = 13

-- how many UTF-16 code units a character takes
abbrev pub len_utf16 : ℕ → ℕ
len_utf16 c = if nat_lt c 0x1_0000 then 1 else 2

-- how many code units a character takes in an encoding: in UTF-8 a byte is a code unit
abbrev pub code_units : PositionEncoding → ℕ → ℕ
code_units Utf8 c = len_utf8 c
code_units Utf16 c = len_utf16 c

-- whether the character c is the last of its line, where rest follows it: LF is, and CR where no LF follows
abbrev pub ends_line : ℕ → List ℕ → Bool
ends_line c rest = c == line_feed || (c == carriage_return && not (slice_index rest 0 == line_feed))

-- the lines, with c put in front of the first of them
abbrev pub before_lines : ℕ → List (List ℕ) → List (List ℕ)
before_lines c [] = (c ∷ []) ∷ []
before_lines c (l ∷ ls) = (c ∷ l) ∷ ls

-- the lines of a text, each with its end: the text is cut after each character that ends a line
unfoldable pub lines : List ℕ → List (List ℕ)
lines [] = [] ∷ []
lines (c ∷ cs) = if ends_line c cs then (c ∷ []) ∷ lines cs else before_lines c (lines cs)

-- a line without its end
abbrev pub is_content : ℕ → Bool
is_content c = not (c == line_feed) && not (c == carriage_return)

abbrev pub content : List ℕ → List ℕ
content l = take_while is_content l

-- the longest front of the characters that measures at most n
abbrev pub fitting : (ℕ → ℕ) → ℕ → List ℕ → List ℕ
fitting measure n [] = []
fitting measure n (c ∷ cs) = if nat_le (measure c) n then c ∷ fitting measure (n - measure c) cs else []

-- how many bytes, and how many code units of an encoding, the characters take
abbrev pub byte_count : List ℕ → ℕ
byte_count cs = sum_by len_utf8 cs

abbrev pub unit_count : PositionEncoding → List ℕ → ℕ
unit_count encoding cs = sum_by (code_units encoding) cs

-- the place one line further down
abbrev pub next_line : Position → Position
next_line p = record { line = p.line + 1; character = p.character }

-- on the first of the lines, i bytes after its start
abbrev pub on_first : PositionEncoding → List ℕ → ℕ → Position
on_first encoding l i = record { line = 0; character = unit_count encoding (fitting len_utf8 i (content l)) }

-- the place i bytes after the start of the lines: the line that holds it, and the code units between the start of
-- that line and it, its end not counted
unfoldable pub position_in : PositionEncoding → List (List ℕ) → ℕ → Position
position_in encoding [] i = record { line = 0; character = 0 }
position_in encoding (l ∷ []) i = on_first encoding l i
position_in encoding (l ∷ m ∷ ls) i = if nat_lt i (byte_count l) then on_first encoding l i else next_line (position_in encoding (m ∷ ls) (i - byte_count l))

-- the bytes before a place: all lines before it, and of its own line as many characters as fit into its code units,
-- the end not counted; past the last line, all bytes
unfoldable pub offset_in : PositionEncoding → List (List ℕ) → ℕ → ℕ → ℕ
offset_in encoding [] line character = 0
offset_in encoding (l ∷ ls) zero character = byte_count (fitting (code_units encoding) character (content l))
offset_in encoding (l ∷ ls) (suc line) character = byte_count l + offset_in encoding ls line character

-- the position of the byte offset i in the text bs
abbrev pub pos : PositionEncoding → List ℕ → ℕ → Position
pos encoding bs i = position_in encoding (lines (chars bs)) i

-- the byte offset of the position p in the text bs
abbrev pub off : PositionEncoding → List ℕ → Position → ℕ
off encoding bs p = offset_in encoding (lines (chars bs)) p.line p.character

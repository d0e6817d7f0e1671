-- The header part of a frame, by its lines.
use Rattle.std.specs.Prelude.{ℕ, ◌<◌, ◌+◌, ◌-◌, List, [], ◌∷◌, length, take, drop, min, Bool, not, ◌&&◌, ◌==◌, nat_lt, codes, bytes_eq, Option, Some, None, option_map, unwrap_or, slice_index, if◌then◌else◌}
use Rattle.std.specs.List.{position_or_len, before_first, after_first, list_all}
use Rattle.std.specs.Char.{is_ascii_digit}
use Rattle.std.specs.Str.{str_eq_ignore_ascii_case}
use Rattle.std.specs.Str.Parse.{digits_value}
use Rattle.gq_rpc.specs.declared.header.Field.{Field}
use Rattle.gq_rpc.specs.declared.header.Field.TheVariants.{Other, Length, Malformed}
use Rattle.gq_rpc.specs.declared.header.Head.{Head}
use Rattle.gq_rpc.specs.declared.header.Head.TheVariants as head

abbrev pub is_line_feed : ℕ → Bool
is_line_feed b = b == 10

-- a byte in front of an unfinished line that has more lines behind it
abbrev pub onto : ℕ → List (List ℕ) → List (List ℕ)
onto b [] = []
onto b (line ∷ lines) = (b ∷ line) ∷ lines

-- the lines of a text that a LF ends, each without its LF
abbrev pub ended_lines : List ℕ → List (List ℕ)
ended_lines [] = []
ended_lines (b ∷ bytes) = if is_line_feed b then [] ∷ ended_lines bytes else onto b (ended_lines bytes)

abbrev pub is_colon : ℕ → Bool
is_colon b = b == 58

abbrev pub is_no_space : ℕ → Bool
is_no_space b = not (b == 32)

-- a length is counted up to here: a body of this many bytes is too long
abbrev pub length_cap : ℕ
length_cap = 16777217

-- the number that decimal digits give, with spaces around them
abbrev pub length_in : List ℕ → Option ℕ
length_in value =
    let digits = drop (position_or_len is_no_space value) value in
    let count = position_or_len (λ b. not (is_ascii_digit b)) digits in
    if nat_lt 0 count && list_all (λ b. b == 32) (drop count digits)
    then Some (min (digits_value 10 (take count digits)) length_cap) else None

abbrev pub length_field : Option ℕ → Field
length_field (Some n) = Length n
length_field None = Malformed

-- what a line without its end says
abbrev pub field_in : List ℕ → Field
field_in line =
    if nat_lt (position_or_len is_colon line) (length line)
    then (if str_eq_ignore_ascii_case (before_first is_colon line) (codes "Content-Length")
    then length_field (length_in (after_first is_colon line)) else Other)
    else Malformed

-- what a line that a LF ended says: a CR must stand before the LF
abbrev pub field_of : List ℕ → Field
field_of line =
    if nat_lt 0 (length line) && slice_index line (length line - 1) == 13
    then field_in (take (length line - 1) line) else Malformed

-- the length that is known after a field, unless the field is no field or gives the length again
abbrev pub known_after : Field → Option ℕ → Option (Option ℕ)
known_after Other found = Some found
known_after (Length n) None = Some (Some n)
known_after (Length n) (Some m) = None
known_after Malformed found = None

-- the lines of a header part, after `size` bytes that gave the length `found`
abbrev pub head_of : ℕ → Option ℕ → List (List ℕ) → Head
head_of size found [] = head.Open
head_of size found (line ∷ lines) =
    if bytes_eq line (13 ∷ []) then head.Done (size + 2) found
    else unwrap_or (option_map (λ known. head_of (size + (length line + 1)) known lines) (known_after (field_of line) found)) head.Malformed

-- a header part that has ended has its empty line
abbrev pub IsNotEmpty : Head → Type 0
IsNotEmpty head.Open = Unit {0}
IsNotEmpty (head.Done size found) = 0 < size
IsNotEmpty head.Malformed = Unit {0}

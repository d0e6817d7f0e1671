-- What a string or a block string stands for, computed.
use Rattle.std.specs.Prelude.{ℕ, zero, suc, ◌-◌, ◌==◌, ◌||◌, ◌&&◌, not, Bool, nat_le, List, [], ◌∷◌, ◌++◌, length, drop, map, reverse, Option, Some, None, if◌then◌else◌, encode_utf8}
use Rattle.std.specs.Borrow.{Bor}
use Rattle.gq_lex.specs.declared.quoted.Form.{Form}
use Rattle.gq_lex.specs.declared.quoted.Form.TheVariants.{Plain, Block}
use Rattle.gq_lex.specs.declared.quoted.Step.TheVariants.{Ends, Goes, Fails}
use Rattle.gq_lex.specs.Blocks.{begins_quotes, begins_escape}
use Rattle.gq_lex.specs.Bytes.{look_up, is_line_terminator}
use Rattle.gq_lex.specs.Scanning.{byte_at, unit_at, step_at}
use Rattle.gq_lex.specs.Strings.{is_quote, escapes, is_high_surrogate, is_low_surrogate, is_surrogate, paired}
use Rattle.gq_lex.specs.Values.{lines, indent, is_blank_line, least, from_filled}

-- a character, if it is one
abbrev pub scalar_value : ℕ → List ℕ
scalar_value c = if is_surrogate c || nat_le 0x110000 c then [] else encode_utf8 c

abbrev pub second_value : ℕ → Option ℕ → List ℕ
second_value high None = []
second_value high (Some low) = if is_low_surrogate low then scalar_value (paired high low) else []

abbrev pub unit_value : List ℕ → Option ℕ → List ℕ
unit_value bs None = []
unit_value bs (Some unit) = if is_high_surrogate unit then second_value unit (unit_at (drop 6 bs)) else scalar_value unit

abbrev pub escaped_value : Option ℕ → List ℕ
escaped_value None = []
escaped_value (Some c) = c ∷ []

abbrev pub escape_value : ℕ → List ℕ → List ℕ
escape_value b bs = if b == 117 then unit_value bs (unit_at bs) else escaped_value (look_up b escapes)

-- what the character at the front of what is left of a string stands for
unfoldable pub character_value : List ℕ → List ℕ
character_value bs = if byte_at bs 0 == 92 then escape_value (byte_at bs 1) bs else byte_at bs 0 ∷ []

-- and of a block string
abbrev pub block_character_value : List ℕ → List ℕ
block_character_value bs = if begins_escape bs then 34 ∷ 34 ∷ 34 ∷ [] else byte_at bs 0 ∷ []

abbrev pub value_at : Form → List ℕ → List ℕ
value_at Plain bs = character_value bs
value_at Block bs = block_character_value bs

abbrev pub with_front : List ℕ → Option (List ℕ) → Option (List ℕ)
with_front front None = None
with_front front (Some others) = Some (front ++ others)

-- what stands up to the end, which is the end of the text, where the first bytes, as many as said, are passed over
unfoldable pub decoded : Form → List ℕ → ℕ → Option (List ℕ)
decoded form [] k = None
decoded form (b ∷ bs) (suc k) = decoded form bs k
decoded form (b ∷ bs) zero =
    elim (step_at form (b ∷ bs)) [ Ends n ↦ if length (b ∷ bs) == n then Some [] else None | Goes n ↦ with_front (value_at form (b ∷ bs)) (decoded form bs (n - 1)) | Fails ↦ None ]

unfoldable pub string_at : List ℕ → Option (List ℕ)
string_at bs = if is_quote (byte_at bs 0) then decoded Plain (drop 1 bs) 0 else None

unfoldable pub raw_at : List ℕ → Option (List ℕ)
raw_at bs = if begins_quotes bs then decoded Block (drop 3 bs) 0 else None

-- lines of the code
abbrev pub texts_of : List (Bor (List ℕ)) → List (List ℕ)
texts_of ls = map (λ l. l.now) ls

abbrev pub is_line_byte : ℕ → Bool
is_line_byte b = not (is_line_terminator b)

-- how long the LineTerminator at the front is
abbrev pub terminator_len : List ℕ → ℕ
terminator_len bs = if byte_at bs 0 == 13 && byte_at bs 1 == 10 then 2 else 1

-- the lines behind the LineTerminator at the front
abbrev pub later_lines : List ℕ → List (List ℕ)
later_lines [] = []
later_lines (b ∷ bs) = lines (drop (terminator_len (b ∷ bs)) (b ∷ bs))

-- the common indent with one more line
abbrev pub least_indent : List ℕ → Option ℕ → Option ℕ
least_indent line others = if is_blank_line line then others else Some (least (indent line) others)

-- the lines up to the last that holds more than WhiteSpace
abbrev pub to_filled : List (List ℕ) → List (List ℕ)
to_filled ls = reverse (from_filled (reverse ls))

abbrev pub behind_line_feed : List ℕ → List ℕ
behind_line_feed line = 10 ∷ line

-- What strings and block strings stand for (section 2.9.4, "String Value", of the October 2021 edition), as bytes of UTF-8.
use Rattle.std.specs.Prelude.{◌≡◌, ℕ, ◌==◌, ◌&&◌, min, List, [], ◌∷◌, ◌++◌, length, drop, map, reverse, Bool, false, Option, Some, None, unwrap_or, if◌then◌else◌}
use Rattle.std.specs.List.{prefix_len, onto_first, join_with_byte}
use Rattle.gq_lex.specs.Blocks.{IsBlockBody}
use Rattle.gq_lex.specs.Bytes.{is_white_space, is_line_terminator}
use Rattle.gq_lex.specs.Strings.{AreCharacters}

-- the text of a string, and the value that its characters stand for
pub record IsStringValue (text value : List ℕ) : Type 0 where
  pub body : List ℕ
  pub is : text ≡ 34 ∷ (body ++ 34 ∷ [])
  pub characters : AreCharacters body value

-- a New Line stands at the front
abbrev pub begins_line_feed : List ℕ → Bool
begins_line_feed [] = false
begins_line_feed (b ∷ bs) = b == 10

-- the lines of a text, which is cut at each LineTerminator: a New Line, a Carriage Return, or the two as one
abbrev pub lines : List ℕ → List (List ℕ)
lines [] = [] ∷ []
lines (b ∷ bs) =
    if b == 13 && begins_line_feed bs then lines bs
    else (if is_line_terminator b then [] ∷ lines bs else onto_first b (lines bs))

-- how much WhiteSpace a line begins with
abbrev pub indent : List ℕ → ℕ
indent line = prefix_len is_white_space line

-- a line of WhiteSpace alone
abbrev pub is_blank_line : List ℕ → Bool
is_blank_line line = indent line == length line

-- the lesser one, where there are two
abbrev pub least : ℕ → Option ℕ → ℕ
least n None = n
least n (Some m) = min n m

-- the least indent of the lines that hold more than WhiteSpace
abbrev pub common_indent : List (List ℕ) → Option ℕ
common_indent [] = None
common_indent (l ∷ ls) = if is_blank_line l then common_indent ls else Some (least (indent l) (common_indent ls))

-- the lines but the first without the indent that these have in common
abbrev pub dedented : List (List ℕ) → List (List ℕ)
dedented [] = []
dedented (l ∷ ls) = l ∷ map (drop (unwrap_or (common_indent ls) 0)) ls

-- the lines from the first on that holds more than WhiteSpace
abbrev pub from_filled : List (List ℕ) → List (List ℕ)
from_filled [] = []
from_filled (l ∷ ls) = if is_blank_line l then from_filled ls else l ∷ ls

-- the lines without those of WhiteSpace alone at both ends
abbrev pub trimmed : List (List ℕ) → List (List ℕ)
trimmed ls = reverse (from_filled (reverse (from_filled ls)))

-- BlockStringValue: its lines, joined by New Lines
abbrev pub block_value : List ℕ → List ℕ
block_value raw = join_with_byte 10 (trimmed (dedented (lines raw)))

-- the text of a block string, and its value
pub record IsBlockStringValue (text value : List ℕ) : Type 0 where
  pub body : List ℕ
  pub raw : List ℕ
  pub is : text ≡ 34 ∷ 34 ∷ 34 ∷ body
  pub characters : IsBlockBody body raw
  pub value_is : value ≡ block_value raw

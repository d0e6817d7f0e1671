-- How the characters of a string are spelled, and what they stand for (section 2.9.4, "String Value", of the October 2021
-- edition). Bytes: a character is the bytes that it has in UTF-8.
use Rattle.std.specs.Prelude.{◌≡◌, ℕ, ◌+◌, ◌-◌, ◌*◌, ◌==◌, ◌||◌, ◌&&◌, not, Bool, true, false, List, [], ◌∷◌, ◌++◌, Some, encode_utf8}
use Rattle.std.specs.Char.{is_ascii_hexdigit, digit_value}
use Rattle.std.specs.Int.{is_in_range}
use Rattle.gq_lex.specs.Bytes.{look_up, is_comment_byte}

-- a quotation mark
abbrev pub is_quote : ℕ → Bool
is_quote b = b == 34

-- a byte of a SourceCharacter but not of a quotation mark, a backslash or a LineTerminator
abbrev pub is_plain_byte : ℕ → Bool
is_plain_byte b = is_comment_byte b && not (is_quote b || b == 92)

-- EscapedCharacter, one of " \ / b f n r t, with the character that it stands for
abbrev pub escapes : List (ℕ × ℕ)
escapes = (34, 34) ∷ (92, 92) ∷ (47, 47) ∷ (98, 8) ∷ (102, 12) ∷ (110, 10) ∷ (114, 13) ∷ (116, 9) ∷ []

-- the code unit that four hexadecimal digits spell
abbrev pub code_unit : ℕ → ℕ → ℕ → ℕ → ℕ
code_unit a b c d = 4096 * digit_value a + 256 * digit_value b + 16 * digit_value c + digit_value d

-- a backslash, a u and an EscapedUnicode of four hexadecimal digits
pub data IsEscapedUnit : List ℕ → ℕ → Type 0 where
  escaped_unit : {a b c d unit : ℕ} → is_ascii_hexdigit a ≡ true → is_ascii_hexdigit b ≡ true → is_ascii_hexdigit c ≡ true → is_ascii_hexdigit d ≡ true → unit ≡ code_unit a b c d → IsEscapedUnit (92 ∷ 117 ∷ a ∷ b ∷ c ∷ d ∷ []) unit

-- the first code unit of a surrogate pair, the second one, either, and the character that two of them stand for
abbrev pub is_high_surrogate : ℕ → Bool
is_high_surrogate unit = is_in_range 0xD800 0xDBFF unit

abbrev pub is_low_surrogate : ℕ → Bool
is_low_surrogate unit = is_in_range 0xDC00 0xDFFF unit

abbrev pub is_surrogate : ℕ → Bool
is_surrogate unit = is_high_surrogate unit || is_low_surrogate unit

abbrev pub paired : ℕ → ℕ → ℕ
paired high low = 0x10000 + 1024 * (high - 0xD800) + (low - 0xDC00)

-- StringCharacter: how it is spelled, and what it stands for. Two escaped surrogates that make a pair are one character.
pub data IsCharacter : List ℕ → List ℕ → Type 0 where
  plain : {b : ℕ} → is_plain_byte b ≡ true → IsCharacter (b ∷ []) (b ∷ [])
  escaped : {b c : ℕ} → look_up b escapes ≡ Some c → IsCharacter (92 ∷ b ∷ []) (c ∷ [])
  unicode : {part value : List ℕ} (unit : ℕ) → IsEscapedUnit part unit → is_surrogate unit ≡ false → value ≡ encode_utf8 unit → IsCharacter part value
  pair : {part value : List ℕ} (first second : List ℕ) (high low : ℕ) → part ≡ first ++ second → IsEscapedUnit first high → is_high_surrogate high ≡ true → IsEscapedUnit second low → is_low_surrogate low ≡ true → value ≡ encode_utf8 (paired high low) → IsCharacter part value

-- some StringCharacters, and what they stand for
pub data AreCharacters : List ℕ → List ℕ → Type 0 where
  none : AreCharacters [] []
  more : {text value : List ℕ} (part after one others : List ℕ) → text ≡ part ++ after → IsCharacter part one → AreCharacters after others → value ≡ one ++ others → AreCharacters text value

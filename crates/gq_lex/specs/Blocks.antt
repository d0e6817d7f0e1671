-- How a block string is spelled behind its opening quotation marks (section 2.9.4, "String Value", "Block Strings", of the
-- October 2021 edition), and what its characters stand for before lines and indents are looked at.
use Rattle.std.specs.Prelude.{◌≡◌, ℕ, ◌||◌, Bool, true, false, nat_eq, List, [], ◌∷◌}
use Rattle.std.specs.List.{starts_with}
use Rattle.gq_lex.specs.Bytes.{is_line_terminator, is_comment_byte}

-- a byte of a SourceCharacter
abbrev pub is_source_byte : ℕ → Bool
is_source_byte b = is_comment_byte b || is_line_terminator b

-- three quotation marks stand at the front of a text, and three with a backslash before them
abbrev pub begins_quotes : List ℕ → Bool
begins_quotes text = starts_with nat_eq text (34 ∷ 34 ∷ 34 ∷ [])

abbrev pub begins_escape : List ℕ → Bool
begins_escape text = starts_with nat_eq text (92 ∷ 34 ∷ 34 ∷ 34 ∷ [])

-- BlockStringCharacters and the quotation marks that close them, and what the characters stand for: three quotation marks with
-- a backslash before them stand for the three, and elsewhere each byte stands for itself.
pub data IsBlockBody : List ℕ → List ℕ → Type 0 where
  closing : IsBlockBody (34 ∷ 34 ∷ 34 ∷ []) []
  escape : {text raw : List ℕ} → IsBlockBody text raw → IsBlockBody (92 ∷ 34 ∷ 34 ∷ 34 ∷ text) (34 ∷ 34 ∷ 34 ∷ raw)
  source : {b : ℕ} {text raw : List ℕ} → is_source_byte b ≡ true → begins_quotes (b ∷ text) ≡ false → begins_escape (b ∷ text) ≡ false → IsBlockBody text raw → IsBlockBody (b ∷ text) (b ∷ raw)

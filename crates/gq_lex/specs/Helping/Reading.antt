-- What stands at the front of a text, for private contracts alone.
use Rattle.std.specs.Prelude.{◌≡◌, ℕ, ◌+◌, ◌==◌, ◌<◌, ◌≤◌, ◌||◌, List, [], ◌∷◌, length, take, drop, Bool, Option, Some, None, Ok, Err, nat_eq, slice_index, if◌then◌else◌}
use Rattle.std.specs.List.{prefix_len, starts_with}
use Rattle.gq_lex.specs.declared.token.Kind.{Kind}
use Rattle.gq_lex.specs.declared.token.Kind.TheVariants.{Spread, Name}
use Rattle.gq_lex.specs.declared.token.BadKind.{BadKind}
use Rattle.gq_lex.specs.declared.token.BadKind.TheVariants.{Char}
use Rattle.gq_lex.specs.declared.lexer.Class.{Class}
use Rattle.gq_lex.specs.declared.lexer.Class.TheVariants.{Blank, Mark, Hash, Dot, Letter, Figure, Quotation, Sign, Other}
use Rattle.gq_lex.specs.Bytes.{is_white_space, is_line_terminator, is_name_start, is_name_continue, is_comment_byte, is_digit, punctuator}
use Rattle.gq_lex.specs.Scanning.{ScanResult, number_at, quoted_at}
use Rattle.gq_lex.specs.Strings.{is_quote}
use Rattle.gq_lex.specs.Tokens.{IsIgnored, IsToken, IsStuck, fault_kind}

-- a byte that is an ignored part by itself
abbrev pub is_blank : ℕ → Bool
is_blank b = is_white_space b || is_line_terminator b || b == 44

-- a byte that begins a number
abbrev pub is_number_start : ℕ → Bool
is_number_start b = b == 45 || is_digit b

-- what a byte at the front begins
abbrev pub sign_class : Option Kind → Class
sign_class None = Other
sign_class (Some kind) = Sign kind

abbrev pub class_of : ℕ → Class
class_of b =
    if is_blank b then Blank else (if is_name_start b then Letter else (if is_number_start b then Figure
    else (if b == 239 then Mark else (if b == 35 then Hash else (if b == 46 then Dot else (if is_quote b then Quotation else sign_class (punctuator b)))))))

-- these bytes
abbrev pub whole_at : List ℕ → List ℕ → Option Kind → ScanResult
whole_at bs want kind = if starts_with nat_eq bs want then Ok (kind, length want) else Err Char

abbrev pub piece_by : Class → List ℕ → ScanResult
piece_by Blank bs = Ok (None, 1)
piece_by Mark bs = whole_at bs (239 ∷ 187 ∷ 191 ∷ []) None
piece_by Hash bs = Ok (None, 1 + prefix_len is_comment_byte (drop 1 bs))
piece_by Dot bs = whole_at bs (46 ∷ 46 ∷ 46 ∷ []) (Some Spread)
piece_by Letter bs = Ok (Some Name, 1 + prefix_len is_name_continue (drop 1 bs))
piece_by Figure bs = number_at bs
piece_by Quotation bs = quoted_at bs
piece_by (Sign kind) bs = Ok (Some kind, 1)
piece_by Other bs = Err Char

-- what stands at the front
unfoldable pub piece_at : List ℕ → ScanResult
piece_at bs = piece_by (class_of (slice_index bs 0)) bs

-- an ignored part, or a token of a kind
abbrev pub IsPiece : Option Kind → List ℕ → List ℕ → Type 0
IsPiece None part after = IsIgnored part after
IsPiece (Some kind) part after = IsToken kind part after

-- the first bytes of a text, as many as said, are a piece
pub record Found (text : List ℕ) (piece : Option Kind × ℕ) : Type 0 where
  pub some : 0 < piece.1
  pub within : piece.1 ≤ length text
  pub is : IsPiece piece.0 (take piece.1 text) (drop piece.1 text)

-- nothing can be read at the front, and this is the fault
pub record IsFaulty (text : List ℕ) (kind : BadKind) : Type 0 where
  pub stuck : IsStuck text
  pub kind_is : kind ≡ fault_kind text

-- What a text reads as: ignored parts and lexical tokens in turn (section 2.1, "Source Text", of the October 2021 edition).
use Rattle.std.specs.Prelude.{◌≡◌, ℕ, ◌+◌, ◌^◌, ◌<◌, ◌≤◌, ◌==◌, ◌||◌, List, [], ◌∷◌, ◌++◌, length, true, Some, if◌then◌else◌}
use Rattle.gq_lex.specs.declared.token.Kind.{Kind}
use Rattle.gq_lex.specs.declared.token.Kind.TheVariants.{Spread, Name, Int, Float, String, BlockString}
use Rattle.gq_lex.specs.declared.token.BadKind.{BadKind}
use Rattle.gq_lex.specs.declared.token.BadKind.TheVariants.{Char, Number, Quote}
use Rattle.gq_lex.specs.declared.token.Token.{Token}
use Rattle.gq_text.specs.declared.place.Span.{Span}
use Rattle.gq_lex.specs.Blocks.{IsBlockBody}
use Rattle.gq_lex.specs.Bytes.{Passes, Stops, is_white_space, is_line_terminator, is_comment_byte, is_name_start, is_name_continue, is_digit, punctuator}
use Rattle.gq_lex.specs.Numbers.{IsIntegerPart, IsFloat, is_number_continue}
use Rattle.gq_lex.specs.Strings.{AreCharacters, is_quote}

-- 2.1.7 Ignored Tokens: an ignored part, and the text that follows it
pub data IsIgnored : List ℕ → List ℕ → Type 0 where
  unicode_bom : {rest : List ℕ} → IsIgnored (239 ∷ 187 ∷ 191 ∷ []) rest
  white_space : {b : ℕ} {rest : List ℕ} → is_white_space b ≡ true → IsIgnored (b ∷ []) rest
  line_terminator : {b : ℕ} {rest : List ℕ} → is_line_terminator b ≡ true → IsIgnored (b ∷ []) rest
  comment : {body rest : List ℕ} → Passes is_comment_byte body → Stops is_comment_byte rest → IsIgnored (35 ∷ body) rest
  comma : {rest : List ℕ} → IsIgnored (44 ∷ []) rest

-- 2.1.6 Lexical Tokens: a token of a kind, and the text that follows it
pub data IsToken : Kind → List ℕ → List ℕ → Type 0 where
  sign : {b : ℕ} {kind : Kind} {rest : List ℕ} → punctuator b ≡ Some kind → IsToken kind (b ∷ []) rest
  spread : {rest : List ℕ} → IsToken Spread (46 ∷ 46 ∷ 46 ∷ []) rest
  name : {b : ℕ} {bs rest : List ℕ} → is_name_start b ≡ true → Passes is_name_continue bs → Stops is_name_continue rest → IsToken Name (b ∷ bs) rest
  int : {part rest : List ℕ} → IsIntegerPart part → Stops is_number_continue rest → IsToken Int part rest
  float : {part rest : List ℕ} → IsFloat part → Stops is_number_continue rest → IsToken Float part rest
  empty_string : {rest : List ℕ} → Stops is_quote rest → IsToken String (34 ∷ 34 ∷ []) rest
  string : {part rest : List ℕ} (body value : List ℕ) → part ≡ 34 ∷ (body ++ 34 ∷ []) → 0 < length body → AreCharacters body value → IsToken String part rest
  block_string : {body raw rest : List ℕ} → IsBlockBody body raw → IsToken BlockString (34 ∷ 34 ∷ 34 ∷ body) rest

-- a token, with its text and its place
pub record Lexeme : Type 0 where
  pub kind : Kind
  pub text : List ℕ
  pub span : Span

abbrev pub lexeme_at : ℕ → Kind → List ℕ → Lexeme
lexeme_at at kind part = record { kind = kind; text = part; span = record { start = at; end = at + length part } }

-- From place at on, the text reads as these tokens, up to a rest.
pub data ReadsTo : ℕ → List ℕ → List Lexeme → List ℕ → Type 0 where
  here : {at : ℕ} {rest : List ℕ} → ReadsTo at rest [] rest
  ignored : {at : ℕ} {text rest : List ℕ} {tokens : List Lexeme} (part after : List ℕ) → text ≡ part ++ after → IsIgnored part after → ReadsTo (at + length part) after tokens rest → ReadsTo at text tokens rest
  token : {at : ℕ} {text rest : List ℕ} {tokens : List Lexeme} (kind : Kind) (part after : List ℕ) → text ≡ part ++ after → IsToken kind part after → ReadsTo (at + length part) after tokens rest → ReadsTo at text (lexeme_at at kind part ∷ tokens) rest

-- the text reads as these tokens
abbrev pub Reads : List ℕ → List Lexeme → Type 0
Reads text tokens = ReadsTo 0 text tokens []

-- a token stands at the front
abbrev pub BeginsToken : List ℕ → Type 0
BeginsToken text = (kind : Kind) × (part : List ℕ) × (after : List ℕ) × (text ≡ part ++ after) × IsToken kind part after

-- an ignored part stands at the front
abbrev pub BeginsIgnored : List ℕ → Type 0
BeginsIgnored text = (part : List ℕ) × (after : List ℕ) × (text ≡ part ++ after) × IsIgnored part after

-- the text does not end, and no ignored part and no token stands at its front
pub record IsStuck (text : List ℕ) : Type 0 where
  pub some : 0 < length text
  pub no_ignored : BeginsIgnored text → ⊥
  pub no_token : BeginsToken text → ⊥

-- what it is that cannot be read at the front of a text: a number, a string or block string, or a character
abbrev pub fault_kind : List ℕ → BadKind
fault_kind [] = Char
fault_kind (b ∷ bs) = if b == 45 || is_digit b then Number else (if is_quote b then Quote else Char)

-- The text before place is read as at most 2 ^ 20 tokens, and what stands there cannot be read.
pub record IsBadAt (text : List ℕ) (place : ℕ) (kind : BadKind) : Type 0 where
  pub tokens : List Lexeme
  pub rest : List ℕ
  pub before : ReadsTo 0 text tokens rest
  pub few : length tokens ≤ 2 ^ 20
  pub at : place + length rest ≡ length text
  pub stuck : IsStuck rest
  pub kind_is : kind ≡ fault_kind rest

-- The text before place is read as 2 ^ 20 tokens, and one more begins there.
pub record IsLimitAt (text : List ℕ) (place : ℕ) : Type 0 where
  pub tokens : List Lexeme
  pub rest : List ℕ
  pub before : ReadsTo 0 text tokens rest
  pub many : length tokens ≡ 2 ^ 20
  pub at : place + length rest ≡ length text
  pub next : BeginsToken rest

-- a token of the code
abbrev pub lexeme_of : Token → Lexeme
lexeme_of t = record { kind = t.kind; text = t.text.now; span = t.span }

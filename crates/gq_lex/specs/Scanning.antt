-- How long a number, a string or a block string at the front of a text is, computed.
use Rattle.std.specs.Prelude.{ℕ, zero, suc, ◌+◌, ◌-◌, ◌==◌, ◌&&◌, List, [], ◌∷◌, drop, get_or, Option, Some, None, Result, Ok, Err, if◌then◌else◌}
use Rattle.std.specs.List.{prefix_len}
use Rattle.std.specs.Char.{is_ascii_hexdigit}
use Rattle.gq_lex.specs.declared.token.Kind.{Kind}
use Rattle.gq_lex.specs.declared.token.Kind.TheVariants.{Int, Float, String, BlockString}
use Rattle.gq_lex.specs.declared.token.BadKind.{BadKind}
use Rattle.gq_lex.specs.declared.token.BadKind.TheVariants.{Number, Quote}
use Rattle.gq_lex.specs.declared.quoted.Form.{Form}
use Rattle.gq_lex.specs.declared.quoted.Form.TheVariants.{Plain, Block}
use Rattle.gq_lex.specs.declared.quoted.Step.{Step}
use Rattle.gq_lex.specs.declared.quoted.Step.TheVariants.{Ends, Goes, Fails}
use Rattle.gq_lex.specs.Blocks.{is_source_byte, begins_quotes, begins_escape}
use Rattle.gq_lex.specs.Bytes.{look_up, is_digit, is_comment_byte}
use Rattle.gq_lex.specs.Numbers.{is_exponent_indicator, is_sign, is_number_continue}
use Rattle.gq_lex.specs.Strings.{is_quote, escapes, code_unit, is_high_surrogate, is_low_surrogate}

-- a kind, where it is a token, and a length; or the fault
abbrev pub ScanResult : Type 0
ScanResult = Result (Option Kind × ℕ) BadKind

-- the byte at a place, or 0, which begins no part of a token
abbrev pub byte_at : List ℕ → ℕ → ℕ
byte_at bs i = get_or bs i 0

-- how long the number without a sign is, 0 where none stands
abbrev pub unsigned_len : List ℕ → ℕ
unsigned_len bs = if byte_at bs 0 == 48 then 1 else prefix_len is_digit bs

abbrev pub behind_sign : ℕ → ℕ
behind_sign n = if n == 0 then 0 else 1 + n

abbrev pub integer_len : List ℕ → ℕ
integer_len bs = if byte_at bs 0 == 45 then behind_sign (unsigned_len (drop 1 bs)) else unsigned_len bs

-- so many digits, of which there must be some, behind others
abbrev pub some_digits : ℕ → ℕ → Option ℕ
some_digits before n = if n == 0 then None else Some (before + n)

-- 0 where it does not begin, and none where it begins and is none
abbrev pub fraction_len : List ℕ → Option ℕ
fraction_len bs = if byte_at bs 0 == 46 then some_digits 1 (prefix_len is_digit (drop 1 bs)) else Some 0

abbrev pub exponent_len : List ℕ → Option ℕ
exponent_len bs =
    if is_exponent_indicator (byte_at bs 0) then (if is_sign (byte_at bs 1) then some_digits 2 (prefix_len is_digit (drop 2 bs)) else some_digits 1 (prefix_len is_digit (drop 1 bs)))
    else Some 0

-- a number of so many bytes, by what follows it
abbrev pub ended_at : List ℕ → ℕ → ℕ → ScanResult
ended_at bs integer others =
    if is_number_continue (byte_at bs (integer + others)) then Err Number else Ok (Some (if others == 0 then Int else Float), integer + others)

abbrev pub with_exponent : List ℕ → ℕ → ℕ → Option ℕ → ScanResult
with_exponent bs integer fraction None = Err Number
with_exponent bs integer fraction (Some n) = ended_at bs integer (fraction + n)

abbrev pub with_fraction : List ℕ → ℕ → Option ℕ → ScanResult
with_fraction bs integer None = Err Number
with_fraction bs integer (Some n) = with_exponent bs integer n (exponent_len (drop (integer + n) bs))

abbrev pub with_integer : List ℕ → ℕ → ScanResult
with_integer bs n = if n == 0 then Err Number else with_fraction bs n (fraction_len (drop n bs))

unfoldable pub number_at : List ℕ → ScanResult
number_at bs = with_integer bs (integer_len bs)

-- the code unit of an escape at the front
abbrev pub unit_at : List ℕ → Option ℕ
unit_at bs =
    if byte_at bs 0 == 92 && byte_at bs 1 == 117 && is_ascii_hexdigit (byte_at bs 2) && is_ascii_hexdigit (byte_at bs 3) && is_ascii_hexdigit (byte_at bs 4) && is_ascii_hexdigit (byte_at bs 5)
    then Some (code_unit (byte_at bs 2) (byte_at bs 3) (byte_at bs 4) (byte_at bs 5)) else None

-- the second of two code units
abbrev pub second_step : Option ℕ → Step
second_step None = Fails
second_step (Some low) = if is_low_surrogate low then Goes 12 else Fails

abbrev pub unit_step : List ℕ → Option ℕ → Step
unit_step bs None = Fails
unit_step bs (Some unit) = if is_high_surrogate unit then second_step (unit_at (drop 6 bs)) else (if is_low_surrogate unit then Fails else Goes 6)

abbrev pub escaped_step : Option ℕ → Step
escaped_step None = Fails
escaped_step (Some c) = Goes 2

abbrev pub escape_step : ℕ → List ℕ → Step
escape_step b bs = if b == 117 then unit_step bs (unit_at bs) else escaped_step (look_up b escapes)

-- what stands at the front of what is left of a string
unfoldable pub string_step : List ℕ → Step
string_step bs =
    if is_quote (byte_at bs 0) then Ends 1 else (if byte_at bs 0 == 92 then escape_step (byte_at bs 1) bs
    else (if is_comment_byte (byte_at bs 0) then Goes 1 else Fails))

-- what stands at the front of what is left of a block string
unfoldable pub block_step : List ℕ → Step
block_step bs =
    if begins_quotes bs then Ends 3 else (if begins_escape bs then Goes 4 else (if is_source_byte (byte_at bs 0) then Goes 1 else Fails))

abbrev pub step_at : Form → List ℕ → Step
step_at Plain bs = string_step bs
step_at Block bs = block_step bs

-- so many bytes more
abbrev pub grown : ℕ → Option ℕ → Option ℕ
grown n None = None
grown n (Some m) = Some (n + m)

-- how long it is up to its end, where the first bytes, as many as said, are passed over
unfoldable pub scan : Form → List ℕ → ℕ → Option ℕ
scan form [] k = None
scan form (b ∷ bs) (suc k) = grown 1 (scan form bs k)
scan form (b ∷ bs) zero = elim (step_at form (b ∷ bs)) [ Ends n ↦ Some n | Goes n ↦ grown 1 (scan form bs (n - 1)) | Fails ↦ None ]

abbrev pub closed : Kind → ℕ → Option ℕ → ScanResult
closed kind before None = Err Quote
closed kind before (Some n) = Ok (Some kind, before + n)

-- a string or a block string
unfoldable pub quoted_at : List ℕ → ScanResult
quoted_at bs = if begins_quotes bs then closed BlockString 3 (scan Block (drop 3 bs) 0) else closed String 1 (scan Plain (drop 1 bs) 0)

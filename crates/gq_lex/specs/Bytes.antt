-- Classes of the bytes of a text in UTF-8. A character beyond ASCII has bytes from 128 on.
use Rattle.std.specs.Prelude.{◌≡◌, ℕ, ◌==◌, ◌||◌, nat_le, Bool, true, false, List, [], ◌∷◌, Option, Some, None, if◌then◌else◌}
use Rattle.std.specs.Char.{is_ascii_alphabetic, is_ascii_alphanumeric, is_ascii_digit}
use Rattle.gq_lex.specs.declared.token.Kind.{Kind}
use Rattle.gq_lex.specs.declared.token.Kind.TheVariants.{Bang, Dollar, Ampersand, ParenOpen, ParenClose, Colon, Equals, At, BracketOpen, BracketClose, BraceOpen, Pipe, BraceClose}

-- 2.1.2 WhiteSpace: horizontal tab and space
abbrev pub is_white_space : ℕ → Bool
is_white_space b = b == 9 || b == 32

-- 2.1.3 LineTerminator: new line and carriage return
abbrev pub is_line_terminator : ℕ → Bool
is_line_terminator b = b == 10 || b == 13

-- 2.1.4 CommentChar: a byte of a SourceCharacter but not of a LineTerminator
abbrev pub is_comment_byte : ℕ → Bool
is_comment_byte b = nat_le 32 b || b == 9

-- 2.1.9 NameStart: a letter or an underscore
abbrev pub is_name_start : ℕ → Bool
is_name_start b = b == 95 || is_ascii_alphabetic b

-- 2.1.9 NameContinue: a letter, a digit or an underscore
abbrev pub is_name_continue : ℕ → Bool
is_name_continue b = b == 95 || is_ascii_alphanumeric b

-- 2.9.1 Digit
abbrev pub is_digit : ℕ → Bool
is_digit b = is_ascii_digit b

-- each byte passes
abbrev pub Passes : (ℕ → Bool) → List ℕ → Type 0
Passes p [] = Unit {0}
Passes p (b ∷ bs) = (p b ≡ true) × Passes p bs

-- lookahead: the text ends, or its first byte does not pass
abbrev pub Stops : (ℕ → Bool) → List ℕ → Type 0
Stops p [] = Unit {0}
Stops p (b ∷ bs) = p b ≡ false

-- the value beside a number in a table
abbrev pub look_up : {X : Type 0} → ℕ → List (ℕ × X) → Option X
look_up n [] = None
look_up n (e ∷ es) = if n == e.0 then Some e.1 else look_up n es

-- 2.1.8 Punctuators of one byte: ! $ & ( ) : = @ [ ] { | }
abbrev pub punctuators : List (ℕ × Kind)
punctuators =
    (33, Bang) ∷ (36, Dollar) ∷ (38, Ampersand) ∷ (40, ParenOpen) ∷ (41, ParenClose) ∷ (58, Colon) ∷ (61, Equals) ∷ (64, At)
    ∷ (91, BracketOpen) ∷ (93, BracketClose) ∷ (123, BraceOpen) ∷ (124, Pipe) ∷ (125, BraceClose) ∷ []

abbrev pub punctuator : ℕ → Option Kind
punctuator b = look_up b punctuators

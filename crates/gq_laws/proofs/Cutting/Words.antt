-- Names, dots and braces that are put into a text, and what they may stand before and behind.
use Rattle.std.proofs.Common.{◌≡◌, ◌≢◌, ℕ, ◌+◌, List, [], ◌∷◌, ◌++◌, length, Bool, true, false, cond, eqb, Some, refl, sym, ap, ◌∙◌, arith, ⊎_elim}
use Rattle.std.specs.Prelude.{not, codes}
use Rattle.std.proofs.lemmas.Bool.Decides.{eqb_tells}
use Rattle.gq_lex.specs.declared.token.Kind.{Kind}
use Rattle.gq_lex.specs.declared.token.Kind.TheVariants as kind
use Rattle.gq_lex.specs.Bytes.{Stops, is_name_start, is_name_continue, look_up, punctuator, punctuators}
use Rattle.gq_lex.specs.Tokens.{line_terminator, IsToken, sign, spread, name, int, float, empty_string, string, block_string, Lexeme, lexeme_at}
use Rattle.gq_lex.proofs.Runs.{both_true, is_number}
use Rattle.gq_parse.specs.Grammar.{Tokens}
use Rattle.gq_laws.proofs.Cutting.Reading.{Follows, dot_follows, start_numbers, start_comments, ReadsLike, like_token, like_ignored}

-- a token whose place does not matter
abbrev pub lexeme : Kind → List ℕ → Lexeme
lexeme kind part = lexeme_at 0 kind part

-- what all punctuators of the table are
abbrev pub all_kinds : (Kind → Bool) → List (ℕ × Kind) → Bool
all_kinds t [] = true
all_kinds t (e ∷ es) = cond (t e.1) (all_kinds t es) false

found_kind : (t : Kind → Bool) (es : List (ℕ × Kind)) (n : ℕ) (k : Kind) → look_up n es ≡ Some k → all_kinds t es ≡ true → t k ≡ true
found_kind t [] n k found holds = absurd (cc)
found_kind t (e ∷ es) n k found holds =
    let both = both_true (t e.1) (all_kinds t es) holds in
    ⊎_elim
    (λ (h : (eqb n e.0 ≡ true) × (n ≡ e.0)). let same : Some e.1 ≡ Some k = ap (λ b. cond b (Some e.1) (look_up n es)) (sym h.0) ∙ found in let kinds : e.1 ≡ k = cc in ap t (sym kinds) ∙ both.0)
    (λ (h : (eqb n e.0 ≡ false) × (n ≢ e.0)). found_kind t es n k (ap (λ b. cond b (Some e.1) (look_up n es)) (sym h.0) ∙ found) both.1)
    (eqb_tells n e.0)

-- a Name or three dots
abbrev pub is_name_or_dots : Kind → Bool
is_name_or_dots kind.Name = true
is_name_or_dots kind.Spread = true
is_name_or_dots _ = false

abbrev pub is_name_kind : Kind → Bool
is_name_kind kind.Name = true
is_name_kind _ = false

not_both : (b : Bool) → not b ≡ true → b ≡ true → ⊥
not_both true h k = let f : false ≡ true = h in cc
not_both false h k = let f : false ≡ true = k in cc

-- no punctuator of one byte is a Name or three dots
no_name_or_dots : (b : ℕ) (k : Kind) → punctuator b ≡ Some k → is_name_or_dots k ≡ true → ⊥
no_name_or_dots b k e is = not_both (is_name_or_dots k) (found_kind (λ x. not (is_name_or_dots x)) punctuators b k e refl) is

no_name : (b : ℕ) (k : Kind) → punctuator b ≡ Some k → is_name_kind k ≡ true → ⊥
no_name b k e is = not_both (is_name_kind k) (found_kind (λ x. not (is_name_kind x)) punctuators b k e refl) is

-- in the place of a Name or of three dots a dot may stand
pub dot_before : {k : Kind} {part after : List ℕ} (new : List ℕ) → IsToken k part after → is_name_or_dots k ≡ true → Follows (part ++ after) (46 ∷ new)
dot_before new (sign {b} {kind = k} e) is = absurd (no_name_or_dots b k e is)
dot_before new (spread {rest}) is = dot_follows 46 (46 ∷ 46 ∷ rest) new refl refl
dot_before new (name {b} {bs} {rest} s p e) is = dot_follows b (bs ++ rest) new (start_comments b s) (start_numbers b s)
dot_before new (int integer e) is = absurd (cc)
dot_before new (float number e) is = absurd (cc)
dot_before new (empty_string e) is = absurd (cc)
dot_before new (string body value same some characters) is = absurd (cc)
dot_before new (block_string body) is = absurd (cc)

-- a Name may stand before whatever does not go on with it
pub name_before : {k : Kind} {part after : List ℕ} (new : List ℕ) → IsToken k part after → is_name_kind k ≡ true → Stops is_name_continue new → IsToken k part new
name_before new (sign {b} {kind = k} e) is stops = absurd (no_name b k e is)
name_before new spread is stops = absurd (cc)
name_before new (name s p e) is stops = name s p stops
name_before new (int integer e) is stops = absurd (cc)
name_before new (float number e) is stops = absurd (cc)
name_before new (empty_string e) is stops = absurd (cc)
name_before new (string body value same some characters) is stops = absurd (cc)
name_before new (block_string body) is stops = absurd (cc)

-- a brace may stand before all
abbrev pub is_brace : Kind → Bool
is_brace kind.BraceOpen = true
is_brace kind.BraceClose = true
is_brace _ = false

pub brace_before : {k : Kind} {part after : List ℕ} (new : List ℕ) → IsToken k part after → is_brace k ≡ true → IsToken k part new
brace_before new (sign e) is = sign e
brace_before new spread is = absurd (cc)
brace_before new (name s p e) is = absurd (cc)
brace_before new (int integer e) is = absurd (cc)
brace_before new (float number e) is = absurd (cc)
brace_before new (empty_string e) is = absurd (cc)
brace_before new (string body value same some characters) is = absurd (cc)
brace_before new (block_string body) is = absurd (cc)

pub brace_long : {k : Kind} {part after : List ℕ} → IsToken k part after → is_brace k ≡ true → length part ≡ 1
brace_long (sign e) is = omega arith
brace_long spread is = absurd (cc)
brace_long (name s p e) is = absurd (cc)
brace_long (int integer e) is = absurd (cc)
brace_long (float number e) is = absurd (cc)
brace_long (empty_string e) is = absurd (cc)
brace_long (string body value same some characters) is = absurd (cc)
brace_long (block_string body) is = absurd (cc)

-- a text that is a Name
abbrev pub IsNameText : List ℕ → Type 0
IsNameText text = IsToken kind.Name text []

-- three dots, a Name and a sign at the front of what is read
pub like_dots : {after rest : List ℕ} {tokens : Tokens} → ReadsLike after tokens rest → ReadsLike (46 ∷ 46 ∷ 46 ∷ after) (lexeme kind.Spread (46 ∷ 46 ∷ 46 ∷ []) ∷ tokens) rest
like_dots more = like_token (lexeme kind.Spread (46 ∷ 46 ∷ 46 ∷ [])) spread more

pub like_name : {after rest : List ℕ} {tokens : Tokens} (text : List ℕ) → IsNameText text → Stops is_name_continue after → ReadsLike after tokens rest →
    ReadsLike (text ++ after) (lexeme kind.Name text ∷ tokens) rest
like_name {after} text is stops more = like_token (lexeme kind.Name text) (name_before after is refl stops) more

pub like_sign : {after rest : List ℕ} {tokens : Tokens} (b : ℕ) (k : Kind) → punctuator b ≡ Some k → ReadsLike after tokens rest → ReadsLike (b ∷ after) (lexeme k (b ∷ []) ∷ tokens) rest
like_sign b k e more = like_token (lexeme k (b ∷ [])) (sign e) more

fragment_word : IsNameText (codes "fragment")
fragment_word = name refl (refl, (refl, (refl, (refl, (refl, (refl, (refl, tt))))))) tt

on_word : IsNameText (codes "on")
on_word = name refl (refl, tt) tt

pub like_word_fragment : {after rest : List ℕ} {tokens : Tokens} → ReadsLike (32 ∷ after) tokens rest → ReadsLike (codes "fragment" ++ (32 ∷ after)) (lexeme kind.Name (codes "fragment") ∷ tokens) rest
like_word_fragment more = like_name (codes "fragment") fragment_word refl more

pub like_word_on : {after rest : List ℕ} {tokens : Tokens} → ReadsLike (32 ∷ after) tokens rest → ReadsLike (codes "on" ++ (32 ∷ after)) (lexeme kind.Name (codes "on") ∷ tokens) rest
like_word_on more = like_name (codes "on") on_word refl more

pub like_line : {after rest : List ℕ} {tokens : Tokens} → ReadsLike after tokens rest → ReadsLike (10 ∷ after) tokens rest
like_line {after} more = like_ignored {part = 10 ∷ []} {after = after} (line_terminator refl) more

-- a text that begins as a Name does
pub record Named (text : List ℕ) : Type 0 where
  pub byte : ℕ
  pub others : List ℕ
  pub is : text ≡ byte ∷ others
  pub starts : is_name_start byte ≡ true

pub named : {k : Kind} {text part : List ℕ} (after : List ℕ) → text ≡ part ++ after → IsToken k part after → is_name_kind k ≡ true → Named text
named after is (sign {b} {kind = k} e) names = absurd (no_name b k e names)
named after is spread names = absurd (cc)
named after is (name {b} {bs} s p e) names = record { byte = b; others = bs ++ after; is = is; starts = s }
named after is (int integer e) names = absurd (cc)
named after is (float number e) names = absurd (cc)
named after is (empty_string e) names = absurd (cc)
named after is (string body value same some characters) names = absurd (cc)
named after is (block_string body) names = absurd (cc)

-- what all punctuators of the table are, with their bytes
abbrev pub all_pairs : (ℕ → Kind → Bool) → List (ℕ × Kind) → Bool
all_pairs t [] = true
all_pairs t (e ∷ es) = cond (t e.0 e.1) (all_pairs t es) false

found_pair : (t : ℕ → Kind → Bool) (es : List (ℕ × Kind)) (n : ℕ) (k : Kind) → look_up n es ≡ Some k → all_pairs t es ≡ true → t n k ≡ true
found_pair t [] n k found holds = absurd (cc)
found_pair t (e ∷ es) n k found holds =
    let both = both_true (t e.0 e.1) (all_pairs t es) holds in
    ⊎_elim
    (λ (h : (eqb n e.0 ≡ true) × (n ≡ e.0)).
    let same : Some e.1 ≡ Some k = ap (λ b. cond b (Some e.1) (look_up n es)) (sym h.0) ∙ found in
    let kinds : e.1 ≡ k = cc in
    ap (λ x. t x k) h.1 ∙ ap (t e.0) (sym kinds) ∙ both.0)
    (λ (h : (eqb n e.0 ≡ false) × (n ≢ e.0)). found_pair t es n k (ap (λ b. cond b (Some e.1) (look_up n es)) (sym h.0) ∙ found) both.1)
    (eqb_tells n e.0)

-- the byte of a brace
abbrev brace_byte : ℕ → Kind → Bool
brace_byte n kind.BraceOpen = eqb n 123
brace_byte n kind.BraceClose = eqb n 125
brace_byte n _ = true

byte_holds : (n : ℕ) (k : Kind) → punctuator n ≡ Some k → brace_byte n k ≡ true
byte_holds n k e = found_pair brace_byte punctuators n k e refl

pub opening_text : {k : Kind} {part after : List ℕ} → IsToken k part after → k ≡ kind.BraceOpen → part ≡ codes "{"
opening_text (sign {b} {kind = k} e) is = ap (λ n. n ∷ []) (is_number b 123 (ap (brace_byte b) (sym is) ∙ byte_holds b k e))
opening_text spread is = absurd (cc)
opening_text (name s p e) is = absurd (cc)
opening_text (int integer e) is = absurd (cc)
opening_text (float number e) is = absurd (cc)
opening_text (empty_string e) is = absurd (cc)
opening_text (string body value same some characters) is = absurd (cc)
opening_text (block_string body) is = absurd (cc)

pub closing_text : {k : Kind} {part after : List ℕ} → IsToken k part after → k ≡ kind.BraceClose → part ≡ codes "}"
closing_text (sign {b} {kind = k} e) is = ap (λ n. n ∷ []) (is_number b 125 (ap (brace_byte b) (sym is) ∙ byte_holds b k e))
closing_text spread is = absurd (cc)
closing_text (name s p e) is = absurd (cc)
closing_text (int integer e) is = absurd (cc)
closing_text (float number e) is = absurd (cc)
closing_text (empty_string e) is = absurd (cc)
closing_text (string body value same some characters) is = absurd (cc)
closing_text (block_string body) is = absurd (cc)

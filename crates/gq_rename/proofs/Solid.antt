-- A token begins and ends with a byte that is no line terminator.
use Rattle.std.proofs.Common.{◌≡◌, ℕ, suc, zero, ◌+◌, ◌-◌, ◌<◌, List, [], ◌∷◌, ◌++◌, length, get_or, Bool, true, Some, refl, sym, ap, subst, ◌∙◌, arith, length-append, nat_lt}
use Rattle.std.proofs.lemmas.List.{get_or-append-add}
use Rattle.std.proofs.lemmas.Bool.Decides.{nat_tests}
use Rattle.gq_lex.specs.declared.token.Kind.{Kind}
use Rattle.gq_lex.specs.Blocks.{IsBlockBody, closing, escape, source}
use Rattle.gq_lex.specs.Bytes.{Passes, is_digit, is_name_start, is_name_continue, punctuator, punctuators}
use Rattle.gq_lex.specs.Numbers.{is_non_zero_digit, is_exponent_indicator, is_sign, IsIntegerPart, zero as int_zero, negative_zero, digits, negative_digits, IsFractionalPart, fraction, IsExponentPart, exponent, signed_exponent, IsFloat, with_fraction, with_exponent, with_both}
use Rattle.gq_lex.specs.Tokens.{IsToken, sign, spread, name, int, float, empty_string, string, block_string}
use Rattle.gq_lex.proofs.Edges.{passes_append}
use Rattle.gq_lex.proofs.Runs.{found_holds}

-- a byte behind the blank and all control characters
abbrev pub is_dark : ℕ → Bool
is_dark b = nat_lt 32 b

-- a part with bytes, of which the first and the last are so
pub record IsSolid (part : List ℕ) : Type 0 where
  pub some : 0 < length part
  pub first : 32 < get_or part 0 0
  pub last : 32 < get_or part (length part - 1) 0

above : (b : ℕ) → is_dark b ≡ true → 32 < b
above b h = grind (arith, nat_tests)

passes_more : (p q : ℕ → Bool) → ((b : ℕ) → p b ≡ true → q b ≡ true) → (bs : List ℕ) → Passes p bs → Passes q bs
passes_more p q h [] passes = tt
passes_more p q h (b ∷ bs) passes = (h b passes.0, passes_more p q h bs passes.1)

passes_at : (p : ℕ → Bool) (bs : List ℕ) → Passes p bs → (i : ℕ) → i < length bs → p (get_or bs i 0) ≡ true
passes_at p [] passes i h = absurd (omega (arith, h))
passes_at p (b ∷ bs) passes zero h = passes.0
passes_at p (b ∷ bs) passes (suc i) h = passes_at p bs passes.1 i (omega (arith, h))

-- a part of such bytes alone
solid_of : (part : List ℕ) → 0 < length part → Passes is_dark part → IsSolid part
solid_of part some passes = record {
  some = some;
  first = above (get_or part 0 0) (passes_at is_dark part passes 0 some);
  last = above (get_or part (length part - 1) 0) (passes_at is_dark part passes (length part - 1) (omega (arith, some)));
}

-- a part between two of them
solid_between : (part inner : List ℕ) (b c : ℕ) → part ≡ b ∷ (inner ++ c ∷ []) → 32 < b → 32 < c → IsSolid part
solid_between part inner b c is first last =
    let place : length part - 1 ≡ length (b ∷ inner) + 0 = omega (arith, ap length is, length-append inner (c ∷ [])) in
    let end : get_or part (length part - 1) 0 ≡ c = ap (get_or part (length part - 1)) refl ∙ ap (λ n. get_or part n 0) place ∙ ap (λ l. get_or l (length (b ∷ inner) + 0) 0) is ∙ get_or-append-add (b ∷ inner) (c ∷ []) 0 0 in
    let start : get_or part 0 0 ≡ b = ap (λ l. get_or l 0 0) is in
    record { some = omega (arith, ap length is); first = omega (arith, start, first); last = omega (arith, end, last) }

name_dark : (b : ℕ) → is_name_continue b ≡ true → is_dark b ≡ true
name_dark b h = grind (arith, nat_tests)

start_dark : (b : ℕ) → is_name_start b ≡ true → is_dark b ≡ true
start_dark b h = grind (arith, nat_tests)

digit_dark : (b : ℕ) → is_digit b ≡ true → is_dark b ≡ true
digit_dark b h = grind (arith, nat_tests)

non_zero_dark : (b : ℕ) → is_non_zero_digit b ≡ true → is_dark b ≡ true
non_zero_dark b h = grind (arith, nat_tests)

indicator_dark : (b : ℕ) → is_exponent_indicator b ≡ true → is_dark b ≡ true
indicator_dark b h = grind (arith, nat_tests)

sign_dark : (b : ℕ) → is_sign b ≡ true → is_dark b ≡ true
sign_dark b h = grind (arith, nat_tests)

digits_dark : (bs : List ℕ) → Passes is_digit bs → Passes is_dark bs
digits_dark bs h = passes_more is_digit is_dark digit_dark bs h

integer_dark : {part : List ℕ} → IsIntegerPart part → (0 < length part) × Passes is_dark part
integer_dark int_zero = (omega arith, (refl, tt))
integer_dark negative_zero = (omega arith, (refl, (refl, tt)))
integer_dark (digits {b} {bs} first others) = (omega arith, (non_zero_dark b first, digits_dark bs others))
integer_dark (negative_digits {b} {bs} first others) = (omega arith, (refl, (non_zero_dark b first, digits_dark bs others)))

fraction_dark : {part : List ℕ} → IsFractionalPart part → Passes is_dark part
fraction_dark (fraction {b} {bs} first others) = (refl, (digit_dark b first, digits_dark bs others))

exponent_dark : {part : List ℕ} → IsExponentPart part → Passes is_dark part
exponent_dark (exponent {e} {b} {bs} indicator first others) = (indicator_dark e indicator, (digit_dark b first, digits_dark bs others))
exponent_dark (signed_exponent {e} {s} {b} {bs} indicator mark first others) = (indicator_dark e indicator, (sign_dark s mark, (digit_dark b first, digits_dark bs others)))

float_of : (part a others : List ℕ) → part ≡ a ++ others → (0 < length a) × Passes is_dark a → Passes is_dark others → IsSolid part
float_of part a others is first passes =
    solid_of part (omega (arith, ap length is, length-append a others, first.0)) (subst (Passes is_dark) (sym is) (passes_append is_dark a others first.1 passes))

float_solid : {part : List ℕ} → IsFloat part → IsSolid part
float_solid {part} (with_fraction a b is integer second) = float_of part a b is (integer_dark integer) (fraction_dark second)
float_solid {part} (with_exponent a b is integer third) = float_of part a b is (integer_dark integer) (exponent_dark third)
float_solid {part} (with_both a b c is integer second third) = float_of part a (b ++ c) is (integer_dark integer) (passes_append is_dark b c (fraction_dark second) (exponent_dark third))

-- a block string ends with a quotation mark
record Closed (text : List ℕ) : Type 0 where
  inner : List ℕ
  is : text ≡ inner ++ 34 ∷ []

block_closed : {text raw : List ℕ} → IsBlockBody text raw → Closed text
block_closed closing = record { inner = 34 ∷ 34 ∷ []; is = refl }
block_closed (escape rest) = let c = block_closed rest in record { inner = 92 ∷ 34 ∷ 34 ∷ 34 ∷ c.inner; is = ap (λ l. 92 ∷ 34 ∷ 34 ∷ 34 ∷ l) c.is }
block_closed (source {b} is quotes escapes rest) = let c = block_closed rest in record { inner = b ∷ c.inner; is = ap (λ l. b ∷ l) c.is }

punctuator_dark : (b : ℕ) (kind : Kind) → punctuator b ≡ Some kind → is_dark b ≡ true
punctuator_dark b kind e = found_holds is_dark punctuators b kind e refl

-- a token begins and ends so
pub token_solid : {kind : Kind} {part after : List ℕ} → IsToken kind part after → IsSolid part
token_solid (sign {b} {kind} e) = solid_of (b ∷ []) (omega arith) (punctuator_dark b kind e, tt)
token_solid spread = record { some = omega arith; first = omega arith; last = omega arith }
token_solid (name {b} {bs} starts passes stops) = solid_of (b ∷ bs) (omega arith) (start_dark b starts, passes_more is_name_continue is_dark name_dark bs passes)
token_solid (int {part} integer stops) = let h = integer_dark integer in solid_of part h.0 h.1
token_solid (float number stops) = float_solid number
token_solid (empty_string stops) = record { some = omega arith; first = omega arith; last = omega arith }
token_solid (string {part} body value is some characters) = solid_between part body 34 34 is (omega arith) (omega arith)
token_solid (block_string {body} h) =
    let c = block_closed h in
    solid_between (34 ∷ 34 ∷ 34 ∷ body) (34 ∷ 34 ∷ c.inner) 34 34 (ap (λ l. 34 ∷ 34 ∷ 34 ∷ l) c.is) (omega arith) (omega arith)

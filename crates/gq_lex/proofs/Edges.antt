-- A token begins and ends with ASCII.
use Rattle.std.proofs.Common.{zero, ltb, ◌≡◌, ℕ, suc, ◌+◌, ◌-◌, ◌<◌, List, [], ◌∷◌, ◌++◌, length, get_or, Bool, true, Some, refl, sym, ap, subst, ◌∙◌, arith, length-append}
use Rattle.std.proofs.lemmas.List.{get_or-append-add}
use Rattle.std.proofs.lemmas.Bool.Decides.{nat_tests}
use Rattle.gq_lex.specs.declared.token.Kind.{Kind}
use Rattle.gq_lex.specs.Blocks.{IsBlockBody, closing, escape, source}
use Rattle.gq_lex.specs.Bytes.{Passes, is_digit, is_name_start, is_name_continue, punctuator, punctuators}
use Rattle.gq_lex.specs.Numbers.{is_non_zero_digit, is_exponent_indicator, is_sign, IsIntegerPart, zero as int_zero, negative_zero, digits, negative_digits, IsFractionalPart, fraction, IsExponentPart, exponent, signed_exponent, IsFloat, with_fraction, with_exponent, with_both}
use Rattle.gq_lex.specs.Tokens.{IsToken, sign, spread, name, int, float, empty_string, string, block_string}
use Rattle.gq_lex.proofs.Runs.{found_holds}

-- a part with bytes, of which the first and the last are ASCII
pub record Edges (part : List ℕ) : Type 0 where
  pub some : 0 < length part
  pub first : get_or part 0 0 < 128
  pub last : get_or part (length part - 1) 0 < 128

abbrev pub is_ascii : ℕ → Bool
is_ascii b = ltb b 128

pub below : (b : ℕ) → is_ascii b ≡ true → b < 128
below b h = grind (arith, nat_tests)

passes_more : (p q : ℕ → Bool) → ((b : ℕ) → p b ≡ true → q b ≡ true) → (bs : List ℕ) → Passes p bs → Passes q bs
passes_more p q h [] passes = tt
passes_more p q h (b ∷ bs) passes = (h b passes.0, passes_more p q h bs passes.1)

pub passes_append : (p : ℕ → Bool) (cs bs : List ℕ) → Passes p cs → Passes p bs → Passes p (cs ++ bs)
passes_append p [] bs h k = k
passes_append p (c ∷ cs) bs h k = (h.0, passes_append p cs bs h.1 k)

passes_at : (p : ℕ → Bool) (bs : List ℕ) → Passes p bs → (i : ℕ) → i < length bs → p (get_or bs i 0) ≡ true
passes_at p [] passes i h = absurd (omega (arith, h))
passes_at p (b ∷ bs) passes zero h = passes.0
passes_at p (b ∷ bs) passes (suc i) h = passes_at p bs passes.1 i (omega (arith, h))

-- a part of ASCII alone
edges_of : (part : List ℕ) → 0 < length part → Passes is_ascii part → Edges part
edges_of part some passes = record {
  some = some;
  first = below (get_or part 0 0) (passes_at is_ascii part passes 0 some);
  last = below (get_or part (length part - 1) 0) (passes_at is_ascii part passes (length part - 1) (omega (arith, some)));
}

-- a part that begins with ASCII and ends with it
edges_between : (part inner : List ℕ) (b c : ℕ) → part ≡ b ∷ (inner ++ c ∷ []) → b < 128 → c < 128 → Edges part
edges_between part inner b c is first last =
    let place : length part - 1 ≡ length (b ∷ inner) + 0 = omega (arith, ap length is, length-append inner (c ∷ [])) in
    let end : get_or part (length part - 1) 0 ≡ c = ap (get_or part (length part - 1)) refl ∙ ap (λ n. get_or part n 0) place ∙ ap (λ l. get_or l (length (b ∷ inner) + 0) 0) is ∙ get_or-append-add (b ∷ inner) (c ∷ []) 0 0 in
    let start : get_or part 0 0 ≡ b = ap (λ l. get_or l 0 0) is in
    record { some = omega (arith, ap length is); first = omega (arith, start, first); last = omega (arith, end, last) }

name_ascii : (b : ℕ) → is_name_continue b ≡ true → is_ascii b ≡ true
name_ascii b h = grind (arith, nat_tests)

start_ascii : (b : ℕ) → is_name_start b ≡ true → is_ascii b ≡ true
start_ascii b h = grind (arith, nat_tests)

digit_ascii : (b : ℕ) → is_digit b ≡ true → is_ascii b ≡ true
digit_ascii b h = grind (arith, nat_tests)

non_zero_ascii : (b : ℕ) → is_non_zero_digit b ≡ true → is_ascii b ≡ true
non_zero_ascii b h = grind (arith, nat_tests)

indicator_ascii : (b : ℕ) → is_exponent_indicator b ≡ true → is_ascii b ≡ true
indicator_ascii b h = grind (arith, nat_tests)

sign_ascii : (b : ℕ) → is_sign b ≡ true → is_ascii b ≡ true
sign_ascii b h = grind (arith, nat_tests)

digits_ascii : (bs : List ℕ) → Passes is_digit bs → Passes is_ascii bs
digits_ascii bs h = passes_more is_digit is_ascii digit_ascii bs h

integer_ascii : {part : List ℕ} → IsIntegerPart part → (0 < length part) × Passes is_ascii part
integer_ascii int_zero = (omega arith, (refl, tt))
integer_ascii negative_zero = (omega arith, (refl, (refl, tt)))
integer_ascii (digits {b} {bs} first others) = (omega arith, (non_zero_ascii b first, digits_ascii bs others))
integer_ascii (negative_digits {b} {bs} first others) = (omega arith, (refl, (non_zero_ascii b first, digits_ascii bs others)))

fraction_ascii : {part : List ℕ} → IsFractionalPart part → Passes is_ascii part
fraction_ascii (fraction {b} {bs} first others) = (refl, (digit_ascii b first, digits_ascii bs others))

exponent_ascii : {part : List ℕ} → IsExponentPart part → Passes is_ascii part
exponent_ascii (exponent {e} {b} {bs} indicator first others) = (indicator_ascii e indicator, (digit_ascii b first, digits_ascii bs others))
exponent_ascii (signed_exponent {e} {s} {b} {bs} indicator mark first others) = (indicator_ascii e indicator, (sign_ascii s mark, (digit_ascii b first, digits_ascii bs others)))

float_of : (part a others : List ℕ) → part ≡ a ++ others → (0 < length a) × Passes is_ascii a → Passes is_ascii others → Edges part
float_of part a others is first passes =
    edges_of part (omega (arith, ap length is, length-append a others, first.0)) (subst (Passes is_ascii) (sym is) (passes_append is_ascii a others first.1 passes))

float_edges : {part : List ℕ} → IsFloat part → Edges part
float_edges {part} (with_fraction a b is integer second) = float_of part a b is (integer_ascii integer) (fraction_ascii second)
float_edges {part} (with_exponent a b is integer third) = float_of part a b is (integer_ascii integer) (exponent_ascii third)
float_edges {part} (with_both a b c is integer second third) = float_of part a (b ++ c) is (integer_ascii integer) (passes_append is_ascii b c (fraction_ascii second) (exponent_ascii third))

-- a block string ends with a quotation mark
record Closed (text : List ℕ) : Type 0 where
  inner : List ℕ
  is : text ≡ inner ++ 34 ∷ []

block_closed : {text raw : List ℕ} → IsBlockBody text raw → Closed text
block_closed closing = record { inner = 34 ∷ 34 ∷ []; is = refl }
block_closed (escape rest) = let c = block_closed rest in record { inner = 92 ∷ 34 ∷ 34 ∷ 34 ∷ c.inner; is = ap (λ l. 92 ∷ 34 ∷ 34 ∷ 34 ∷ l) c.is }
block_closed (source {b} is quotes escapes rest) = let c = block_closed rest in record { inner = b ∷ c.inner; is = ap (λ l. b ∷ l) c.is }

punctuator_ascii : (b : ℕ) (kind : Kind) → punctuator b ≡ Some kind → is_ascii b ≡ true
punctuator_ascii b kind e = found_holds is_ascii punctuators b kind e refl

-- a token begins and ends with ASCII
pub token_edges : {kind : Kind} {part after : List ℕ} → IsToken kind part after → Edges part
token_edges (sign {b} {kind} e) = edges_of (b ∷ []) (omega arith) (punctuator_ascii b kind e, tt)
token_edges spread = record { some = omega arith; first = omega arith; last = omega arith }
token_edges (name {b} {bs} starts passes stops) = edges_of (b ∷ bs) (omega arith) (start_ascii b starts, passes_more is_name_continue is_ascii name_ascii bs passes)
token_edges (int {part} integer stops) = let h = integer_ascii integer in edges_of part h.0 h.1
token_edges (float number stops) = float_edges number
token_edges (empty_string stops) = record { some = omega arith; first = omega arith; last = omega arith }
token_edges (string {part} body value is some characters) = edges_between part body 34 34 is (omega arith) (omega arith)
token_edges (block_string {body} h) =
    let c = block_closed h in
    edges_between (34 ∷ 34 ∷ 34 ∷ body) (34 ∷ 34 ∷ c.inner) 34 34 (ap (λ l. 34 ∷ 34 ∷ 34 ∷ l) c.is) (omega arith) (omega arith)

-- The number at the front of a text: the computed answer is the relation's, both ways.
use Rattle.std.proofs.Common.{◌≡◌, ℕ, suc, ◌+◌, ◌<◌, List, [], ◌∷◌, ◌++◌, length, take, drop, get_or, Bool, true, false, cond, eqb, Option, Some, None, Ok, Err, refl, sym, ap, subst, ◌∙◌, arith, one-add, add-zero, length-append, append_assoc}
use Rattle.std.specs.List.{prefix_len}
use Rattle.std.proofs.lemmas.List.{append-nil, drop_at, drop-drop, get_or-append-add, length-take-le, take-append-drop}
use Rattle.std.proofs.lemmas.Bool.Decides.{nat_tests}
use Rattle.gq_lex.specs.declared.token.Kind.{Kind}
use Rattle.gq_lex.specs.declared.token.Kind.TheVariants.{Int, Float}
use Rattle.gq_lex.specs.declared.token.BadKind.{BadKind}
use Rattle.gq_lex.specs.declared.token.BadKind.TheVariants.{Number}
use Rattle.gq_lex.specs.Bytes.{Passes, Stops, is_digit}
use Rattle.gq_lex.specs.Numbers.{is_non_zero_digit, is_exponent_indicator, is_sign, is_number_continue, IsIntegerPart, zero as int_zero, negative_zero, digits, negative_digits, IsFractionalPart, fraction as dotted, IsExponentPart, exponent as raised, signed_exponent, IsFloat, with_fraction as float_fraction, with_exponent as float_exponent, with_both}
use Rattle.gq_lex.specs.Helping.Reading.{Found}
use Rattle.gq_lex.specs.Scanning.{ScanResult, byte_at, unsigned_len, behind_sign, integer_len, some_digits, fraction_len, exponent_len, with_exponent, with_fraction, with_integer, number_at}
use Rattle.gq_lex.specs.Tokens.{IsToken, int, float}
use Rattle.gq_lex.proofs.Runs.{prefix_len_stops_at, cut_prefix, found_of, is_number, some_inj, ok_inj}

-- the byte at the front of a text tells whether it stops there
front_stops : (p : ℕ → Bool) (rest : List ℕ) → p 0 ≡ false → Stops p rest → p (byte_at rest 0) ≡ false
front_stops p [] none stops = none
front_stops p (b ∷ rest) none stops = stops

stops_front : (p : ℕ → Bool) (rest : List ℕ) → p (byte_at rest 0) ≡ false → Stops p rest
stops_front p [] e = tt
stops_front p (b ∷ rest) e = e

-- what does not go on as a number
ended_tests : (b : ℕ) → is_number_continue b ≡ false → (is_digit b ≡ false) × (eqb b 46 ≡ false) × (is_exponent_indicator b ≡ false)
ended_tests b h = (grind (arith, nat_tests), grind (arith, nat_tests), grind (arith, nat_tests))

indicator_tests : (b : ℕ) → is_exponent_indicator b ≡ true → (is_digit b ≡ false) × (eqb b 46 ≡ false)
indicator_tests b h = (grind (arith, nat_tests), grind (arith, nat_tests))

non_zero_tests : (b : ℕ) → is_non_zero_digit b ≡ true → (is_digit b ≡ true) × (eqb b 48 ≡ false) × (eqb b 45 ≡ false)
non_zero_tests b h = (grind (arith, nat_tests), grind (arith, nat_tests), grind (arith, nat_tests))

digit_no_sign : (b : ℕ) → is_digit b ≡ true → is_sign b ≡ false
digit_no_sign b h = grind (arith, nat_tests)

not_zero : (n : ℕ) → 0 < n → eqb n 0 ≡ false
not_zero n h = grind (arith, nat_tests)

behind_some : (n : ℕ) → 0 < n → behind_sign n ≡ suc n
behind_some n h = ap (λ t. cond t 0 (1 + n)) (not_zero n h) ∙ one-add n

digits_some : (before n : ℕ) → 0 < n → some_digits before n ≡ Some (before + n)
digits_some before n h = ap (λ t. cond t None (Some (before + n))) (not_zero n h)

-- how long the parts of a number are
integer_is : {a : List ℕ} (rest : List ℕ) → IsIntegerPart a → Stops is_digit rest → integer_len (a ++ rest) ≡ length a
integer_is rest int_zero stops = refl
integer_is rest negative_zero stops = refl
integer_is rest (digits {b} {bs} first others) stops =
    let f = non_zero_tests b first in
    ap (λ t. cond t (behind_sign (unsigned_len (bs ++ rest))) (cond (eqb b 48) 1 (prefix_len is_digit (b ∷ (bs ++ rest))))) f.2
    ∙ ap (λ t. cond t 1 (prefix_len is_digit (b ∷ (bs ++ rest)))) f.1
    ∙ prefix_len_stops_at is_digit (b ∷ bs) rest (f.0, others) stops
integer_is rest (negative_digits {b} {bs} first others) stops =
    let f = non_zero_tests b first in
    ap (λ t. behind_sign (cond t 1 (prefix_len is_digit (b ∷ (bs ++ rest))))) f.1
    ∙ ap behind_sign (prefix_len_stops_at is_digit (b ∷ bs) rest (f.0, others) stops)
    ∙ behind_some (suc (length bs)) (omega arith)

integer_some : {a : List ℕ} → IsIntegerPart a → 0 < length a
integer_some int_zero = omega arith
integer_some negative_zero = omega arith
integer_some (digits first others) = omega arith
integer_some (negative_digits first others) = omega arith

fraction_is : {b : List ℕ} (rest : List ℕ) → IsFractionalPart b → Stops is_digit rest → fraction_len (b ++ rest) ≡ Some (length b)
fraction_is rest (dotted {b} {bs} first others) stops =
    ap (some_digits 1) (prefix_len_stops_at is_digit (b ∷ bs) rest (first, others) stops)
    ∙ digits_some 1 (suc (length bs)) (omega arith) ∙ ap Some (one-add (suc (length bs)))

fraction_some : {b : List ℕ} → IsFractionalPart b → 0 < length b
fraction_some (dotted first others) = omega arith

fraction_front : {b : List ℕ} (rest : List ℕ) → IsFractionalPart b → Stops is_digit (b ++ rest)
fraction_front rest (dotted first others) = refl

no_fraction : (rest : List ℕ) → eqb (byte_at rest 0) 46 ≡ false → fraction_len rest ≡ Some 0
no_fraction rest e = ap (λ t. cond t (some_digits 1 (prefix_len is_digit (drop 1 rest))) (Some 0)) e

exponent_is : {c : List ℕ} (rest : List ℕ) → IsExponentPart c → Stops is_digit rest → exponent_len (c ++ rest) ≡ Some (length c)
exponent_is rest (raised {e} {b} {bs} indicator first others) stops =
    let one : Option ℕ = some_digits 1 (prefix_len is_digit (b ∷ (bs ++ rest))) in
    let two : Option ℕ = some_digits 2 (prefix_len is_digit (bs ++ rest)) in
    ap (λ t. cond t (cond (is_sign b) two one) (Some 0)) indicator
    ∙ ap (λ t. cond t two one) (digit_no_sign b first)
    ∙ ap (some_digits 1) (prefix_len_stops_at is_digit (b ∷ bs) rest (first, others) stops)
    ∙ digits_some 1 (suc (length bs)) (omega arith) ∙ ap Some (one-add (suc (length bs)))
exponent_is rest (signed_exponent {e} {s} {b} {bs} indicator sign first others) stops =
    let one : Option ℕ = some_digits 1 (prefix_len is_digit (s ∷ b ∷ (bs ++ rest))) in
    let two : Option ℕ = some_digits 2 (prefix_len is_digit (b ∷ (bs ++ rest))) in
    let long : 2 + suc (length bs) ≡ suc (suc (suc (length bs))) = omega arith in
    ap (λ t. cond t (cond (is_sign s) two one) (Some 0)) indicator
    ∙ ap (λ t. cond t two one) sign
    ∙ ap (some_digits 2) (prefix_len_stops_at is_digit (b ∷ bs) rest (first, others) stops)
    ∙ digits_some 2 (suc (length bs)) (omega arith) ∙ ap Some long

exponent_some : {c : List ℕ} → IsExponentPart c → 0 < length c
exponent_some (raised indicator first others) = omega arith
exponent_some (signed_exponent indicator sign first others) = omega arith

exponent_front : {c : List ℕ} (rest : List ℕ) → IsExponentPart c → Stops is_digit (c ++ rest) × (eqb (byte_at (c ++ rest) 0) 46 ≡ false)
exponent_front rest (raised {e} indicator first others) = indicator_tests e indicator
exponent_front rest (signed_exponent {e} indicator sign first others) = indicator_tests e indicator

no_exponent : (rest : List ℕ) → is_exponent_indicator (byte_at rest 0) ≡ false → exponent_len rest ≡ Some 0
no_exponent rest e =
    ap (λ t. cond t (cond (is_sign (byte_at rest 1)) (some_digits 2 (prefix_len is_digit (drop 2 rest))) (some_digits 1 (prefix_len is_digit (drop 1 rest)))) (Some 0)) e

abbrev kind_of : ℕ → Kind
kind_of others = cond (eqb others 0) Int Float

-- what follows the parts of a number
byte_behind : (a b c after : List ℕ) → byte_at (a ++ (b ++ (c ++ after))) (length a + (length b + length c)) ≡ byte_at after 0
byte_behind a b c after =
    get_or-append-add a (b ++ (c ++ after)) (length b + length c) 0
    ∙ get_or-append-add b (c ++ after) (length c) 0
    ∙ ap (λ n. get_or (c ++ after) n 0) (sym (add-zero (length c)))
    ∙ get_or-append-add c after 0 0

drop_two : (a b rest : List ℕ) → drop (length a + length b) (a ++ (b ++ rest)) ≡ rest
drop_two a b rest = sym (drop-drop (length b) (length a) (a ++ (b ++ rest))) ∙ ap (drop (length b)) (drop_at a (b ++ rest) (length a) refl) ∙ drop_at b rest (length b) refl

-- a number by its parts, of which the second and the third may be empty
number_of : (a b c after : List ℕ) → integer_len (a ++ (b ++ (c ++ after))) ≡ length a → 0 < length a → fraction_len (b ++ (c ++ after)) ≡ Some (length b) → exponent_len (c ++ after) ≡ Some (length c) → Stops is_number_continue after →
    number_at (a ++ (b ++ (c ++ after))) ≡ Ok (Some (kind_of (length b + length c)), length a + (length b + length c))
unfolding number_at
number_of a b c after i some f e stops =
    let bs : List ℕ = a ++ (b ++ (c ++ after)) in
    let others : ℕ = length b + length c in
    let follow : is_number_continue (byte_at bs (length a + others)) ≡ false = ap is_number_continue (byte_behind a b c after) ∙ front_stops is_number_continue after refl stops in
    ap (with_integer bs) i
    ∙ ap (λ t. cond t (Err Number) (with_fraction bs (length a) (fraction_len (drop (length a) bs)))) (not_zero (length a) some)
    ∙ ap (λ l. with_fraction bs (length a) (fraction_len l)) (drop_at a (b ++ (c ++ after)) (length a) refl)
    ∙ ap (with_fraction bs (length a)) f
    ∙ ap (λ l. with_exponent bs (length a) (length b) (exponent_len l)) (drop_two a b (c ++ after))
    ∙ ap (with_exponent bs (length a) (length b)) e
    ∙ ap (λ t. cond t (Err Number) (Ok (Some (kind_of others), length a + others))) follow

pub int_is : {part : List ℕ} (after : List ℕ) → IsIntegerPart part → Stops is_number_continue after → number_at (part ++ after) ≡ Ok (Some Int, length part)
int_is {part} after integer stops =
    let tests = ended_tests (byte_at after 0) (front_stops is_number_continue after refl stops) in
    number_of part [] [] after (integer_is after integer (stops_front is_digit after tests.0)) (integer_some integer) (no_fraction after tests.1) (no_exponent after tests.2) stops
    ∙ ap (λ n. Ok (Some Int, n)) (add-zero (length part))

float_ends : (n others long : ℕ) → 0 < others → n + others ≡ long → ◌≡◌ {A = ScanResult} (Ok (Some (kind_of others), n + others)) (Ok (Some Float, long))
float_ends n others long some e = ap (λ t. Ok (Some (cond t Int Float), n + others)) (not_zero others some) ∙ ap (λ m. Ok (Some Float, m)) e

pub float_is : {part : List ℕ} (after : List ℕ) → IsFloat part → Stops is_number_continue after → number_at (part ++ after) ≡ Ok (Some Float, length part)
float_is {part} after (float_fraction a b is integer second) stops =
    let tests = ended_tests (byte_at after 0) (front_stops is_number_continue after refl stops) in
    ap (λ l. number_at (l ++ after)) is ∙ ap number_at (append_assoc a b after)
    ∙ number_of a b [] after (integer_is (b ++ after) integer (fraction_front after second)) (integer_some integer) (fraction_is after second (stops_front is_digit after tests.0)) (no_exponent after tests.2) stops
    ∙ float_ends (length a) (length b + 0) (length part) (omega (arith, fraction_some second)) (omega (arith, ap length is, length-append a b))
float_is {part} after (float_exponent a c is integer third) stops =
    let tests = ended_tests (byte_at after 0) (front_stops is_number_continue after refl stops) in
    let front = exponent_front after third in
    ap (λ l. number_at (l ++ after)) is ∙ ap number_at (append_assoc a c after)
    ∙ number_of a [] c after (integer_is (c ++ after) integer front.0) (integer_some integer) (no_fraction (c ++ after) front.1) (exponent_is after third (stops_front is_digit after tests.0)) stops
    ∙ float_ends (length a) (0 + length c) (length part) (omega (arith, exponent_some third)) (omega (arith, ap length is, length-append a c))
float_is {part} after (with_both a b c is integer second third) stops =
    let tests = ended_tests (byte_at after 0) (front_stops is_number_continue after refl stops) in
    let front = exponent_front after third in
    ap (λ l. number_at (l ++ after)) is ∙ ap number_at (append_assoc a (b ++ c) after ∙ ap (λ l. a ++ l) (append_assoc b c after))
    ∙ number_of a b c after (integer_is (b ++ (c ++ after)) integer (fraction_front (c ++ after) second)) (integer_some integer) (fraction_is (c ++ after) second front.0) (exponent_is after third (stops_front is_digit after tests.0)) stops
    ∙ float_ends (length a) (length b + length c) (length part) (omega (arith, fraction_some second)) (omega (arith, ap length is, length-append a (b ++ c), length-append b c))

-- a part of a text, so many bytes long
record Part (P : List ℕ → Type 0) (bs : List ℕ) (n : ℕ) : Type 0 where
  part : List ℕ
  rest : List ℕ
  is : bs ≡ part ++ rest
  long : length part ≡ n
  holds : P part

data OrNothing (P : List ℕ → Type 0) : List ℕ → Type 0 where
  nothing : OrNothing P []
  something : {part : List ℕ} → P part → OrNothing P part

-- digits, one at least
data AreDigits : List ℕ → Type 0 where
  are_digits : {b : ℕ} {bs : List ℕ} → is_digit b ≡ true → Passes is_digit bs → AreDigits (b ∷ bs)

digits_by : (b : ℕ) (bs : List ℕ) (t : Bool) → is_digit b ≡ t → 0 < cond t (1 + prefix_len is_digit bs) 0 → Part AreDigits (b ∷ bs) (cond t (1 + prefix_len is_digit bs) 0)
digits_by b bs false e some = absurd (omega (arith, some))
digits_by b bs true e some =
    let n : ℕ = prefix_len is_digit bs in
    let cut = cut_prefix is_digit bs in
    record { part = b ∷ take n bs; rest = drop n bs; is = ap (λ l. b ∷ l) (sym (take-append-drop n bs)); long = omega (arith, length-take-le n bs cut.within); holds = are_digits e cut.passes }

digits_told : (bs : List ℕ) → 0 < prefix_len is_digit bs → Part AreDigits bs (prefix_len is_digit bs)
digits_told [] some = absurd (omega (arith, some))
digits_told (b ∷ bs) some = digits_by b bs (is_digit b) refl some

-- an IntegerPart without a sign, which a sign may stand before
record IsUnsigned (part : List ℕ) : Type 0 where
  alone : IsIntegerPart part
  negative : IsIntegerPart (45 ∷ part)

non_zero_if : (b : ℕ) → is_digit b ≡ true → eqb b 48 ≡ false → is_non_zero_digit b ≡ true
non_zero_if b digit other = grind (arith, nat_tests)

unsigned_of : {part : List ℕ} → AreDigits part → eqb (byte_at part 0) 48 ≡ false → IsUnsigned part
unsigned_of (are_digits {b} first others) other = record { alone = digits (non_zero_if b first other) others; negative = negative_digits (non_zero_if b first other) others }

first_of : {part : List ℕ} (rest : List ℕ) → AreDigits part → byte_at (part ++ rest) 0 ≡ byte_at part 0
first_of rest (are_digits first others) = refl

unsigned_by : (bs : List ℕ) (t : Bool) → eqb (byte_at bs 0) 48 ≡ t → 0 < cond t 1 (prefix_len is_digit bs) → Part IsUnsigned bs (cond t 1 (prefix_len is_digit bs))
unsigned_by [] true e some = absurd (cc)
unsigned_by (b ∷ bs) true e some =
    let P : ℕ → Type 0 = λ n. Part IsUnsigned (n ∷ bs) 1 in
    subst P (sym (is_number b 48 e)) (record { part = 48 ∷ []; rest = bs; is = refl; long = refl; holds = record { alone = int_zero; negative = negative_zero } })
unsigned_by bs false e some =
    let told = digits_told bs some in
    let other : eqb (byte_at told.part 0) 48 ≡ false = ap (λ n. eqb n 48) (sym (ap (λ l. byte_at l 0) told.is ∙ first_of told.rest told.holds)) ∙ e in
    record { part = told.part; rest = told.rest; is = told.is; long = told.long; holds = unsigned_of told.holds other }

unsigned_told : (bs : List ℕ) → 0 < unsigned_len bs → Part IsUnsigned bs (unsigned_len bs)
unsigned_told bs some = unsigned_by bs (eqb (byte_at bs 0) 48) refl some

behind_told : (n : ℕ) → 0 < behind_sign n → (0 < n) × (behind_sign n ≡ suc n)
behind_told n some = by_test (eqb n 0) refl some
  where
    by_test : (t : Bool) → eqb n 0 ≡ t → 0 < cond t 0 (1 + n) → (0 < n) × (behind_sign n ≡ suc n)
    by_test true e some = absurd (omega (arith, some))
    by_test false e some = let h : 0 < n = grind (arith, nat_tests) in (h, behind_some n h)

integer_by : (bs : List ℕ) (t : Bool) → eqb (byte_at bs 0) 45 ≡ t → 0 < cond t (behind_sign (unsigned_len (drop 1 bs))) (unsigned_len bs) → Part IsIntegerPart bs (cond t (behind_sign (unsigned_len (drop 1 bs))) (unsigned_len bs))
integer_by [] true e some = absurd (cc)
integer_by (b ∷ bs) true e some =
    let behind = behind_told (unsigned_len bs) some in
    let told = unsigned_told bs behind.0 in
    record { part = 45 ∷ told.part; rest = told.rest; is = ap (λ n. n ∷ bs) (is_number b 45 e) ∙ ap (λ l. 45 ∷ l) told.is; long = ap suc told.long ∙ sym behind.1; holds = told.holds.negative }
integer_by bs false e some =
    let told = unsigned_told bs some in
    record { part = told.part; rest = told.rest; is = told.is; long = told.long; holds = told.holds.alone }

integer_told : (bs : List ℕ) → 0 < integer_len bs → Part IsIntegerPart bs (integer_len bs)
integer_told bs some = integer_by bs (eqb (byte_at bs 0) 45) refl some

digits_of : (before n m : ℕ) → some_digits before n ≡ Some m → (0 < n) × (before + n ≡ m)
digits_of before n m h = by_test (eqb n 0) refl h
  where
    by_test : (t : Bool) → eqb n 0 ≡ t → cond t None (Some (before + n)) ≡ Some m → (0 < n) × (before + n ≡ m)
    by_test true e h = absurd (cc)
    by_test false e h = (grind (arith, nat_tests), some_inj h)

nothing_here : (P : List ℕ → Type 0) (bs : List ℕ) (n : ℕ) → ◌≡◌ {A = Option ℕ} (Some 0) (Some n) → Part (OrNothing P) bs n
nothing_here P bs n h = record { part = []; rest = bs; is = refl; long = some_inj h; holds = nothing }

fraction_of : {ds : List ℕ} → AreDigits ds → OrNothing IsFractionalPart (46 ∷ ds)
fraction_of (are_digits first others) = something (dotted first others)

fraction_by : (bs : List ℕ) (n : ℕ) (t : Bool) → eqb (byte_at bs 0) 46 ≡ t → cond t (some_digits 1 (prefix_len is_digit (drop 1 bs))) (Some 0) ≡ Some n → Part (OrNothing IsFractionalPart) bs n
fraction_by bs n false e h = nothing_here IsFractionalPart bs n h
fraction_by [] n true e h = absurd (cc)
fraction_by (b ∷ bs) n true e h =
    let found = digits_of 1 (prefix_len is_digit bs) n h in
    let told = digits_told bs found.0 in
    record { part = 46 ∷ told.part; rest = told.rest; is = ap (λ n. n ∷ bs) (is_number b 46 e) ∙ ap (λ l. 46 ∷ l) told.is; long = ap suc told.long ∙ sym (one-add (prefix_len is_digit bs)) ∙ found.1; holds = fraction_of told.holds }

exponent_of : (e : ℕ) {ds : List ℕ} → is_exponent_indicator e ≡ true → AreDigits ds → OrNothing IsExponentPart (e ∷ ds)
exponent_of e indicator (are_digits first others) = something (raised indicator first others)

signed_of : (e s : ℕ) {ds : List ℕ} → is_exponent_indicator e ≡ true → is_sign s ≡ true → AreDigits ds → OrNothing IsExponentPart (e ∷ s ∷ ds)
signed_of e s indicator sign (are_digits first others) = something (signed_exponent indicator sign first others)

exponent_digits : (e : ℕ) (bs : List ℕ) (n : ℕ) (t : Bool) → is_exponent_indicator e ≡ true → is_sign (byte_at bs 0) ≡ t → cond t (some_digits 2 (prefix_len is_digit (drop 1 bs))) (some_digits 1 (prefix_len is_digit bs)) ≡ Some n → Part (OrNothing IsExponentPart) (e ∷ bs) n
exponent_digits e bs n false indicator sign h =
    let found = digits_of 1 (prefix_len is_digit bs) n h in
    let told = digits_told bs found.0 in
    record { part = e ∷ told.part; rest = told.rest; is = ap (λ l. e ∷ l) told.is; long = omega (arith, told.long, found.1); holds = exponent_of e indicator told.holds }
exponent_digits e [] n true indicator sign h = absurd (cc)
exponent_digits e (s ∷ bs) n true indicator sign h =
    let found = digits_of 2 (prefix_len is_digit bs) n h in
    let told = digits_told bs found.0 in
    record { part = e ∷ s ∷ told.part; rest = told.rest; is = ap (λ l. e ∷ s ∷ l) told.is; long = omega (arith, told.long, found.1); holds = signed_of e s indicator sign told.holds }

exponent_by : (bs : List ℕ) (n : ℕ) (t : Bool) → is_exponent_indicator (byte_at bs 0) ≡ t → cond t (cond (is_sign (byte_at bs 1)) (some_digits 2 (prefix_len is_digit (drop 2 bs))) (some_digits 1 (prefix_len is_digit (drop 1 bs)))) (Some 0) ≡ Some n → Part (OrNothing IsExponentPart) bs n
exponent_by bs n false e h = nothing_here IsExponentPart bs n h
exponent_by [] n true e h = absurd (cc)
exponent_by (b ∷ bs) n true e h = exponent_digits b bs n (is_sign (byte_at bs 0)) e refl h

-- what a number that was found tells
record Told (bs : List ℕ) (x : Option Kind × ℕ) : Type 0 where
  fraction : ℕ
  exponent : ℕ
  some : 0 < integer_len bs
  fraction_is : fraction_len (drop (integer_len bs) bs) ≡ Some fraction
  exponent_is : exponent_len (drop (integer_len bs + fraction) bs) ≡ Some exponent
  stops : is_number_continue (byte_at bs (integer_len bs + (fraction + exponent))) ≡ false
  is : (Some (kind_of (fraction + exponent)), integer_len bs + (fraction + exponent)) ≡ x

told_by : (bs : List ℕ) (x : Option Kind × ℕ) (fraction exponent : ℕ) (t : Bool) → 0 < integer_len bs → fraction_len (drop (integer_len bs) bs) ≡ Some fraction → exponent_len (drop (integer_len bs + fraction) bs) ≡ Some exponent →
    is_number_continue (byte_at bs (integer_len bs + (fraction + exponent))) ≡ t → ◌≡◌ {A = ScanResult} (cond t (Err Number) (Ok (Some (kind_of (fraction + exponent)), integer_len bs + (fraction + exponent)))) (Ok x) → Told bs x
told_by bs x fraction exponent true some f e stops h = absurd (cc)
told_by bs x fraction exponent false some f e stops h = record { fraction = fraction; exponent = exponent; some = some; fraction_is = f; exponent_is = e; stops = stops; is = ok_inj h }

told_exponent : (bs : List ℕ) (x : Option Kind × ℕ) (fraction : ℕ) (o : Option ℕ) → 0 < integer_len bs → fraction_len (drop (integer_len bs) bs) ≡ Some fraction → exponent_len (drop (integer_len bs + fraction) bs) ≡ o → with_exponent bs (integer_len bs) fraction o ≡ Ok x → Told bs x
told_exponent bs x fraction None some f e h = absurd (cc)
told_exponent bs x fraction (Some exponent) some f e h = told_by bs x fraction exponent (is_number_continue (byte_at bs (integer_len bs + (fraction + exponent)))) some f e refl h

told_fraction : (bs : List ℕ) (x : Option Kind × ℕ) (o : Option ℕ) → 0 < integer_len bs → fraction_len (drop (integer_len bs) bs) ≡ o → with_fraction bs (integer_len bs) o ≡ Ok x → Told bs x
told_fraction bs x None some f h = absurd (cc)
told_fraction bs x (Some fraction) some f h = told_exponent bs x fraction (exponent_len (drop (integer_len bs + fraction) bs)) some f refl h

told_integer : (bs : List ℕ) (x : Option Kind × ℕ) (t : Bool) → eqb (integer_len bs) 0 ≡ t → ◌≡◌ {A = ScanResult} (cond t (Err Number) (with_fraction bs (integer_len bs) (fraction_len (drop (integer_len bs) bs)))) (Ok x) → Told bs x
told_integer bs x true e h = absurd (cc)
told_integer bs x false e h = told_fraction bs x (fraction_len (drop (integer_len bs) bs)) (let n : ℕ = integer_len bs in above n e) refl h
  where
    above : (n : ℕ) → eqb n 0 ≡ false → 0 < n
    above n e = grind (arith, nat_tests)

told : (bs : List ℕ) (x : Option Kind × ℕ) → number_at bs ≡ Ok x → Told bs x
unfolding number_at
told bs x h = told_integer bs x (eqb (integer_len bs) 0) refl h

float_kind : (n : ℕ) → 0 < n → Float ≡ kind_of n
float_kind n some = ap (λ t. cond t Int Float) (sym (not_zero n some))

-- the parts make a number
token_of : {a b c : List ℕ} (after : List ℕ) → IsIntegerPart a → OrNothing IsFractionalPart b → OrNothing IsExponentPart c → Stops is_number_continue after → IsToken (kind_of (length b + length c)) (a ++ (b ++ c)) after
token_of {a} after integer nothing nothing stops = let P : List ℕ → Type 0 = λ l. IsToken Int l after in subst P (sym (append-nil a)) (int integer stops)
token_of {a} after integer (something {part = b} second) nothing stops =
    let P : Kind → Type 0 = λ k. IsToken k (a ++ (b ++ [])) after in
    subst P (float_kind (length b + 0) (omega (arith, fraction_some second))) (float (float_fraction a b (ap (λ l. a ++ l) (append-nil b)) integer second) stops)
token_of {a} after integer nothing (something {part = c} third) stops =
    let P : Kind → Type 0 = λ k. IsToken k (a ++ c) after in
    subst P (float_kind (0 + length c) (omega (arith, exponent_some third))) (float (float_exponent a c refl integer third) stops)
token_of {a} after integer (something {part = b} second) (something {part = c} third) stops =
    let P : Kind → Type 0 = λ k. IsToken k (a ++ (b ++ c)) after in
    subst P (float_kind (length b + length c) (omega (arith, fraction_some second))) (float (with_both a b c refl integer second third) stops)

-- what was found is a number
pub number_told : (bs : List ℕ) (x : Option Kind × ℕ) → number_at bs ≡ Ok x → Found bs x
number_told bs x h =
    let t = told bs x h in
    let a = integer_told bs t.some in
    let behind : drop (integer_len bs) bs ≡ a.rest = ap (drop (integer_len bs)) a.is ∙ drop_at a.part a.rest (integer_len bs) a.long in
    let b = fraction_by a.rest t.fraction (eqb (byte_at a.rest 0) 46) refl (ap fraction_len (sym behind) ∙ t.fraction_is) in
    let behind2 : drop (integer_len bs + t.fraction) bs ≡ b.rest = sym (drop-drop t.fraction (integer_len bs) bs) ∙ ap (drop t.fraction) (behind ∙ b.is) ∙ drop_at b.part b.rest t.fraction b.long in
    let c = exponent_by b.rest t.exponent (is_exponent_indicator (byte_at b.rest 0)) refl (ap exponent_len (sym behind2) ∙ t.exponent_is) in
    let whole : bs ≡ a.part ++ (b.part ++ (c.part ++ c.rest)) = a.is ∙ ap (λ l. a.part ++ l) (b.is ∙ ap (λ l. b.part ++ l) c.is) in
    let lengths : integer_len bs + (t.fraction + t.exponent) ≡ length a.part + (length b.part + length c.part) = omega (arith, a.long, b.long, c.long) in
    let follows : is_number_continue (byte_at c.rest 0) ≡ false =
    ap is_number_continue (sym (byte_behind a.part b.part c.part c.rest) ∙ ap (λ l. byte_at l (length a.part + (length b.part + length c.part))) (sym whole) ∙ ap (byte_at bs) (sym lengths)) ∙ t.stops in
    let others : length b.part + length c.part ≡ t.fraction + t.exponent = omega (arith, b.long, c.long) in
    let token : IsToken (kind_of (t.fraction + t.exponent)) (a.part ++ (b.part ++ c.part)) c.rest =
    subst (λ n. IsToken (kind_of n) (a.part ++ (b.part ++ c.part)) c.rest) others (token_of c.rest a.holds b.holds c.holds (stops_front is_number_continue c.rest follows)) in
    let joined : bs ≡ (a.part ++ (b.part ++ c.part)) ++ c.rest = whole ∙ ap (λ l. a.part ++ l) (sym (append_assoc b.part c.part c.rest)) ∙ sym (append_assoc a.part (b.part ++ c.part) c.rest) in
    let long : length (a.part ++ (b.part ++ c.part)) ≡ integer_len bs + (t.fraction + t.exponent) = omega (arith, length-append a.part (b.part ++ c.part), length-append b.part c.part, a.long, b.long, c.long) in
    subst (Found bs) t.is
    (found_of bs (a.part ++ (b.part ++ c.part)) c.rest (Some (kind_of (t.fraction + t.exponent))) (integer_len bs + (t.fraction + t.exponent)) joined long (omega (arith, t.some)) token)

-- which fault it is
ended_fault : (bs : List ℕ) (integer others : ℕ) (fault : BadKind) (t : Bool) → ◌≡◌ {A = ScanResult} (cond t (Err Number) (Ok (Some (kind_of others), integer + others))) (Err fault) → fault ≡ Number
ended_fault bs integer others fault true h = cc
ended_fault bs integer others fault false h = absurd (cc)

exponent_fault : (bs : List ℕ) (integer n : ℕ) (fault : BadKind) (o : Option ℕ) → with_exponent bs integer n o ≡ Err fault → fault ≡ Number
exponent_fault bs integer n fault None h = cc
exponent_fault bs integer n fault (Some m) h = ended_fault bs integer (n + m) fault (is_number_continue (byte_at bs (integer + (n + m)))) h

fraction_fault : (bs : List ℕ) (integer : ℕ) (fault : BadKind) (o : Option ℕ) → with_fraction bs integer o ≡ Err fault → fault ≡ Number
fraction_fault bs integer fault None h = cc
fraction_fault bs integer fault (Some n) h = exponent_fault bs integer n fault (exponent_len (drop (integer + n) bs)) h

integer_fault : (bs : List ℕ) (integer : ℕ) (fault : BadKind) (t : Bool) → ◌≡◌ {A = ScanResult} (cond t (Err Number) (with_fraction bs integer (fraction_len (drop integer bs)))) (Err fault) → fault ≡ Number
integer_fault bs integer fault true h = cc
integer_fault bs integer fault false h = fraction_fault bs integer fault (fraction_len (drop integer bs)) h

pub number_fault : (bs : List ℕ) (fault : BadKind) → number_at bs ≡ Err fault → fault ≡ Number
unfolding number_at
number_fault bs fault h = integer_fault bs (integer_len bs) fault (eqb (integer_len bs) 0) h

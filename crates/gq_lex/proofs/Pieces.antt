-- What stands at the front of a text: the computed answer is the relation's, both ways.
use Rattle.std.proofs.Common.{◌≡◌, ℕ, ◌+◌, ◌<◌, List, [], ◌∷◌, ◌++◌, length, take, drop, Bool, true, false, cond, eqb, Option, Some, None, Ok, Err, refl, sym, ap, subst, ◌∙◌, arith, one-add, append_assoc, length-append}
use Rattle.std.specs.Prelude.{◌||◌, nat_eq}
use Rattle.std.specs.List.{prefix_len, starts_with}
use Rattle.std.proofs.lemmas.List.{take_at}
use Rattle.std.proofs.lemmas.Bool.Decides.{nat_tests, Decides-eqb}
use Rattle.std.proofs.lemmas.Slice.Eq.{starts_is}
use Rattle.gq_lex.specs.declared.token.Kind.{Kind}
use Rattle.gq_lex.specs.declared.token.Kind.TheVariants.{Spread, Name}
use Rattle.gq_lex.specs.declared.token.BadKind.{BadKind}
use Rattle.gq_lex.specs.declared.token.BadKind.TheVariants.{Char, Number, Quote}
use Rattle.gq_lex.specs.declared.lexer.Class.{Class}
use Rattle.gq_lex.specs.declared.lexer.Class.TheVariants.{Blank, Mark, Hash, Dot, Letter, Figure, Quotation, Sign, Other}
use Rattle.gq_lex.specs.Bytes.{Passes, Stops, is_white_space, is_line_terminator, is_name_start, is_name_continue, is_comment_byte, is_digit, punctuator, punctuators}
use Rattle.gq_lex.specs.Numbers.{is_non_zero_digit, IsIntegerPart, zero as int_zero, negative_zero, digits, negative_digits, IsFloat, with_fraction, with_exponent, with_both}
use Rattle.gq_lex.specs.Helping.Reading.{is_blank, is_number_start, piece_at, piece_by, class_of, sign_class, whole_at, IsPiece, Found, IsFaulty}
use Rattle.gq_lex.specs.Scanning.{ScanResult, number_at, quoted_at}
use Rattle.gq_lex.specs.Strings.{is_quote}
use Rattle.gq_lex.specs.Tokens.{IsIgnored, unicode_bom, white_space, line_terminator, comment, comma, IsToken, sign, spread, name, int, float, empty_string, string, block_string, fault_kind, BeginsIgnored, BeginsToken, IsStuck}
use Rattle.gq_lex.proofs.Numerals.{int_is, float_is, number_told, number_fault}
use Rattle.gq_lex.proofs.Quotes.{empty_is, string_is, block_is, quoted_told, quoted_fault}
use Rattle.gq_lex.proofs.Runs.{prefix_len_stops_at, cut_prefix, holds_along, found_holds, not_true, is_number}

-- a punctuator is of no other class
sign_fails : (t : ℕ → Bool) (b : ℕ) (kind : Kind) → punctuator b ≡ Some kind → holds_along (λ n. cond (t n) false true) punctuators ≡ true → t b ≡ false
sign_fails t b kind e h = not_true (t b) (found_holds (λ n. cond (t n) false true) punctuators b kind e h)

class_if : Bool → Bool → Bool → Bool → Bool → Bool → Bool → Option Kind → Class
class_if t1 t2 t3 t4 t5 t6 t7 o = cond t1 Blank (cond t2 Letter (cond t3 Figure (cond t4 Mark (cond t5 Hash (cond t6 Dot (cond t7 Quotation (sign_class o)))))))

pub class_of_sign : (b : ℕ) (kind : Kind) → punctuator b ≡ Some kind → class_of b ≡ Sign kind
unfolding class_if
class_of_sign b kind e =
    let e1 = sign_fails is_blank b kind e refl in
    let e2 = sign_fails is_name_start b kind e refl in
    let e3 = sign_fails is_number_start b kind e refl in
    let e4 = sign_fails (λ n. eqb n 239) b kind e refl in
    let e5 = sign_fails (λ n. eqb n 35) b kind e refl in
    let e6 = sign_fails (λ n. eqb n 46) b kind e refl in
    let e7 = sign_fails is_quote b kind e refl in
    ap (λ t. class_if t (is_name_start b) (is_number_start b) (eqb b 239) (eqb b 35) (eqb b 46) (is_quote b) (punctuator b)) e1
    ∙ ap (λ t. class_if false t (is_number_start b) (eqb b 239) (eqb b 35) (eqb b 46) (is_quote b) (punctuator b)) e2
    ∙ ap (λ t. class_if false false t (eqb b 239) (eqb b 35) (eqb b 46) (is_quote b) (punctuator b)) e3
    ∙ ap (λ t. class_if false false false t (eqb b 35) (eqb b 46) (is_quote b) (punctuator b)) e4
    ∙ ap (λ t. class_if false false false false t (eqb b 46) (is_quote b) (punctuator b)) e5
    ∙ ap (λ t. class_if false false false false false t (is_quote b) (punctuator b)) e6
    ∙ ap (λ t. class_if false false false false false false t (punctuator b)) e7
    ∙ ap (λ o. class_if false false false false false false false o) e

pub class_of_letter : (b : ℕ) → is_name_start b ≡ true → class_of b ≡ Letter
unfolding class_if
class_of_letter b e =
    let e1 : is_blank b ≡ false = grind (arith, nat_tests) in
    ap (λ t. class_if t (is_name_start b) (is_number_start b) (eqb b 239) (eqb b 35) (eqb b 46) (is_quote b) (punctuator b)) e1
    ∙ ap (λ t. class_if false t (is_number_start b) (eqb b 239) (eqb b 35) (eqb b 46) (is_quote b) (punctuator b)) e

pub class_of_blank : (b : ℕ) → is_blank b ≡ true → class_of b ≡ Blank
unfolding class_if
class_of_blank b e = ap (λ t. class_if t (is_name_start b) (is_number_start b) (eqb b 239) (eqb b 35) (eqb b 46) (is_quote b) (punctuator b)) e

pub class_of_digit : (b : ℕ) → is_digit b ≡ true → class_of b ≡ Figure
unfolding class_if
class_of_digit b e =
    let e1 : is_blank b ≡ false = grind (arith, nat_tests) in
    let e2 : is_name_start b ≡ false = grind (arith, nat_tests) in
    let e3 : is_number_start b ≡ true = grind (arith, nat_tests) in
    ap (λ t. class_if t (is_name_start b) (is_number_start b) (eqb b 239) (eqb b 35) (eqb b 46) (is_quote b) (punctuator b)) e1
    ∙ ap (λ t. class_if false t (is_number_start b) (eqb b 239) (eqb b 35) (eqb b 46) (is_quote b) (punctuator b)) e2
    ∙ ap (λ t. class_if false false t (eqb b 239) (eqb b 35) (eqb b 46) (is_quote b) (punctuator b)) e3

-- what a class says of its byte
abbrev pub ClassHolds : Class → ℕ → Type 0
ClassHolds Blank b = is_blank b ≡ true
ClassHolds Letter b = is_name_start b ≡ true
ClassHolds Figure b = is_number_start b ≡ true
ClassHolds Quotation b = b ≡ 34
ClassHolds Mark b = b ≡ 239
ClassHolds Hash b = b ≡ 35
ClassHolds Dot b = b ≡ 46
ClassHolds (Sign kind) b = punctuator b ≡ Some kind
ClassHolds Other b = (is_number_start b ≡ false) × (is_quote b ≡ false)

sign_holds : (b : ℕ) (o : Option Kind) → is_number_start b ≡ false → is_quote b ≡ false → punctuator b ≡ o → ClassHolds (sign_class o) b
sign_holds b None number quote e = (number, quote)
sign_holds b (Some kind) number quote e = e

holds_if : (b : ℕ) (t1 t2 t3 t4 t5 t6 t7 : Bool) → is_blank b ≡ t1 → is_name_start b ≡ t2 → is_number_start b ≡ t3 → eqb b 239 ≡ t4 → eqb b 35 ≡ t5 → eqb b 46 ≡ t6 → is_quote b ≡ t7 → ClassHolds (class_if t1 t2 t3 t4 t5 t6 t7 (punctuator b)) b
unfolding class_if
holds_if b true t2 t3 t4 t5 t6 t7 e1 e2 e3 e4 e5 e6 e7 = e1
holds_if b false true t3 t4 t5 t6 t7 e1 e2 e3 e4 e5 e6 e7 = e2
holds_if b false false true t4 t5 t6 t7 e1 e2 e3 e4 e5 e6 e7 = e3
holds_if b false false false true t5 t6 t7 e1 e2 e3 e4 e5 e6 e7 = is_number b 239 e4
holds_if b false false false false true t6 t7 e1 e2 e3 e4 e5 e6 e7 = is_number b 35 e5
holds_if b false false false false false true t7 e1 e2 e3 e4 e5 e6 e7 = is_number b 46 e6
holds_if b false false false false false false true e1 e2 e3 e4 e5 e6 e7 = is_number b 34 e7
holds_if b false false false false false false false e1 e2 e3 e4 e5 e6 e7 = sign_holds b (punctuator b) e3 e7 refl

pub class_holds : (b : ℕ) → ClassHolds (class_of b) b
unfolding class_if
class_holds b = holds_if b (is_blank b) (is_name_start b) (is_number_start b) (eqb b 239) (eqb b 35) (eqb b 46) (is_quote b) refl refl refl refl refl refl refl

-- a byte that is ignored by itself is white space, ends a line or is a comma
blank_is : (b : ℕ) (rest : List ℕ) → is_blank b ≡ true → IsIgnored (b ∷ []) rest
blank_is b rest e = blank_if (is_white_space b) (is_line_terminator b) refl refl e
  where
    blank_if : (space end : Bool) → is_white_space b ≡ space → is_line_terminator b ≡ end → (space || end || eqb b 44) ≡ true → IsIgnored (b ∷ []) rest
    blank_if true end e1 e2 e = white_space e1
    blank_if false true e1 e2 e = line_terminator e2
    blank_if false false e1 e2 e = let P : ℕ → Type 0 = λ n. IsIgnored (n ∷ []) rest in subst P (sym (is_number b 44 e)) comma

white_space_is_blank : (b : ℕ) → is_white_space b ≡ true → is_blank b ≡ true
white_space_is_blank b e = ap (λ t. t || is_line_terminator b || eqb b 44) e

line_terminator_is_blank : (b : ℕ) → is_line_terminator b ≡ true → is_blank b ≡ true
line_terminator_is_blank b e = grind (arith, nat_tests)

pub ignored_is : {part after : List ℕ} → IsIgnored part after → piece_at (part ++ after) ≡ Ok (None, length part)
unfolding piece_at
ignored_is unicode_bom = refl
ignored_is (white_space {b} {rest = after} e) = ap (λ c. piece_by c (b ∷ after)) (class_of_blank b (white_space_is_blank b e))
ignored_is (line_terminator {b} {rest = after} e) = ap (λ c. piece_by c (b ∷ after)) (class_of_blank b (line_terminator_is_blank b e))
ignored_is (comment {body} {rest = after} passes stops) =
    ap (λ n. Ok (None, 1 + n)) (prefix_len_stops_at is_comment_byte body after passes stops) ∙ ap (λ n. Ok (None, n)) (one-add (length body))
ignored_is comma = refl

-- a number is read as one
figure_is : (b : ℕ) (bs : List ℕ) → class_of b ≡ Figure → piece_at (b ∷ bs) ≡ number_at (b ∷ bs)
unfolding piece_at
figure_is b bs e = ap (λ c. piece_by c (b ∷ bs)) e

integer_front : {part : List ℕ} (rest : List ℕ) → IsIntegerPart part → piece_at (part ++ rest) ≡ number_at (part ++ rest)
integer_front rest int_zero = figure_is 48 rest refl
integer_front rest negative_zero = figure_is 45 (48 ∷ rest) refl
integer_front rest (digits {b} {bs} first others) = figure_is b (bs ++ rest) (class_of_digit b (non_zero_digit b first))
  where
    non_zero_digit : (b : ℕ) → is_non_zero_digit b ≡ true → is_digit b ≡ true
    non_zero_digit b h = grind (arith, nat_tests)
integer_front rest (negative_digits {b} {bs} first others) = figure_is 45 (b ∷ (bs ++ rest)) refl

float_front : {part : List ℕ} (rest : List ℕ) → IsFloat part → piece_at (part ++ rest) ≡ number_at (part ++ rest)
float_front rest (with_fraction a b is integer second) =
    let same = ap (λ l. l ++ rest) is ∙ append_assoc a b rest in
    ap piece_at same ∙ integer_front (b ++ rest) integer ∙ ap number_at (sym same)
float_front rest (with_exponent a b is integer third) =
    let same = ap (λ l. l ++ rest) is ∙ append_assoc a b rest in
    ap piece_at same ∙ integer_front (b ++ rest) integer ∙ ap number_at (sym same)
float_front rest (with_both a b c is integer second third) =
    let same = ap (λ l. l ++ rest) is ∙ append_assoc a (b ++ c) rest in
    ap piece_at same ∙ integer_front ((b ++ c) ++ rest) integer ∙ ap number_at (sym same)

pub token_is : {kind : Kind} {part after : List ℕ} → IsToken kind part after → piece_at (part ++ after) ≡ Ok (Some kind, length part)
unfolding piece_at
token_is (sign {b} {kind} {rest = after} e) = ap (λ c. piece_by c (b ∷ after)) (class_of_sign b kind e)
token_is spread = refl
token_is (name {b} {bs} {rest = after} starts passes stops) =
    ap (λ c. piece_by c (b ∷ (bs ++ after))) (class_of_letter b starts)
    ∙ ap (λ n. Ok (Some Name, 1 + n)) (prefix_len_stops_at is_name_continue bs after passes stops)
    ∙ ap (λ n. Ok (Some Name, n)) (one-add (length bs))
token_is (int {rest = after} integer stops) = integer_front after integer ∙ int_is after integer stops
token_is (float {rest = after} number stops) = float_front after number ∙ float_is after number stops
token_is (empty_string {rest = after} stops) = empty_is after stops
token_is (string {rest = after} body value is some characters) = ap (λ l. piece_at (l ++ after)) is ∙ ap (λ l. quoted_at (l ++ after)) (sym is) ∙ string_is after body value is some characters
token_is (block_string {rest = after} body) = block_is after body

-- what a computed answer says
abbrev pub Tells : List ℕ → ScanResult → Type 0
Tells bs (Ok x) = Found bs x
Tells bs (Err kind) = kind ≡ fault_kind bs

-- what stands behind the first byte as far as it passes
tells_run : (p : ℕ → Bool) (piece : Option Kind) (b : ℕ) (bs : List ℕ) → ((part after : List ℕ) → Passes p part → Stops p after → IsPiece piece (b ∷ part) after) → Found (b ∷ bs) (piece, 1 + prefix_len p bs)
tells_run p piece b bs made =
    let cut = cut_prefix p bs in
    rw (one-add (prefix_len p bs)) (record { some = omega arith; within = omega (arith, cut.within); is = made (take (prefix_len p bs) bs) (drop (prefix_len p bs) bs) cut.passes cut.stops })

-- these bytes stand at the front, or nothing
tells_whole_if : (bs want : List ℕ) (kind : Option Kind) → 0 < length want → ((after : List ℕ) → IsPiece kind want after) → (r : Bool) → starts_with nat_eq bs want ≡ r → Char ≡ fault_kind bs → Tells bs (cond r (Ok (kind, length want)) (Err Char))
tells_whole_if bs want kind some piece false e fault = fault
tells_whole_if bs want kind some piece true e fault =
    let is = (starts_is Decides-eqb bs want true (sym e)).0 refl in
    let rest : List ℕ = drop (length want) bs in
    let front_is : take (length want) bs ≡ want = ap (take (length want)) is ∙ take_at want rest (length want) refl in
    record {
      some = some;
      within = omega (arith, ap length is, length-append want rest);
      is = subst (λ l. IsPiece kind l rest) (sym front_is) (piece rest);
    }

tells_whole : (bs want : List ℕ) (kind : Option Kind) → 0 < length want → ((after : List ℕ) → IsPiece kind want after) → Char ≡ fault_kind bs → Tells bs (whole_at bs want kind)
tells_whole bs want kind some piece fault = tells_whole_if bs want kind some piece (starts_with nat_eq bs want) refl fault

-- what a number or what is quoted tells
tells_if : (bs : List ℕ) (r : ScanResult) (kind : BadKind) → kind ≡ fault_kind bs → ((x : Option Kind × ℕ) → r ≡ Ok x → Found bs x) → ((fault : BadKind) → r ≡ Err fault → fault ≡ kind) → Tells bs r
tells_if bs (Ok x) kind is found faulty = found x refl
tells_if bs (Err fault) kind is found faulty = faulty fault refl ∙ is

figure_fault : (b : ℕ) (bs : List ℕ) → is_number_start b ≡ true → Number ≡ fault_kind (b ∷ bs)
figure_fault b bs h = ap (λ t. cond t Number (cond (is_quote b) Quote Char)) (sym h)

other_fault : (b : ℕ) (bs : List ℕ) → is_number_start b ≡ false → is_quote b ≡ false → Char ≡ fault_kind (b ∷ bs)
other_fault b bs number quote = sym (ap (λ t. cond t Number (cond (is_quote b) Quote Char)) number ∙ ap (λ t. cond t Quote Char) quote)

tells_by : (b : ℕ) (bs : List ℕ) (c : Class) → ClassHolds c b → Tells (b ∷ bs) (piece_by c (b ∷ bs))
tells_by b bs Blank h = record { some = omega arith; within = omega arith; is = blank_is b bs h }
tells_by b bs Mark h = tells_whole (b ∷ bs) (239 ∷ 187 ∷ 191 ∷ []) None (omega arith) (λ after. unicode_bom) (sym (ap (λ n. fault_kind (n ∷ bs)) h))
tells_by b bs Hash h = let P : ℕ → Type 0 = λ n. Found (n ∷ bs) (None, 1 + prefix_len is_comment_byte bs) in subst P (sym h) (tells_run is_comment_byte None 35 bs (λ part after passes stops. comment passes stops))
tells_by b bs Dot h = tells_whole (b ∷ bs) (46 ∷ 46 ∷ 46 ∷ []) (Some Spread) (omega arith) (λ after. spread) (sym (ap (λ n. fault_kind (n ∷ bs)) h))
tells_by b bs Letter h = tells_run is_name_continue (Some Name) b bs (λ part after passes stops. name h passes stops)
tells_by b bs Figure h = tells_if (b ∷ bs) (number_at (b ∷ bs)) Number (figure_fault b bs h) (number_told (b ∷ bs)) (number_fault (b ∷ bs))
tells_by b bs Quotation h =
    let P : ℕ → Type 0 = λ n. Tells (n ∷ bs) (quoted_at (n ∷ bs)) in
    subst P (sym h) (tells_if (34 ∷ bs) (quoted_at (34 ∷ bs)) Quote refl (quoted_told bs) (quoted_fault (34 ∷ bs)))
tells_by b bs (Sign kind) h = record { some = omega arith; within = omega arith; is = sign h }
tells_by b bs Other h = other_fault b bs h.0 h.1

pub tells : (bs : List ℕ) → 0 < length bs → Tells bs (piece_at bs)
unfolding piece_at
tells [] some = absurd (omega arith)
tells (b ∷ bs) some = tells_by b bs (class_of b) (class_holds b)

pub stuck_at : (bs : List ℕ) (kind : BadKind) → 0 < length bs → piece_at bs ≡ Err kind → IsStuck bs
stuck_at bs kind some e = record {
  some = some;
  no_ignored = λ (begins : BeginsIgnored bs). let f = sym e ∙ ap piece_at begins.2 ∙ ignored_is begins.3 in cc;
  no_token = λ (begins : BeginsToken bs). let f = sym e ∙ ap piece_at begins.3 ∙ token_is begins.4 in cc;
}

-- what a computed answer says of the text
abbrev pub Answers : List ℕ → ScanResult → Type 0
Answers bs (Ok x) = Found bs x
Answers bs (Err kind) = IsFaulty bs kind

answers_if : (bs : List ℕ) (r : ScanResult) → 0 < length bs → piece_at bs ≡ r → Tells bs r → Answers bs r
answers_if bs (Ok x) some e t = t
answers_if bs (Err kind) some e t = record { stuck = stuck_at bs kind some e; kind_is = t }

pub answers : (bs : List ℕ) → 0 < length bs → Answers bs (piece_at bs)
answers bs some = answers_if bs (piece_at bs) some refl (tells bs some)

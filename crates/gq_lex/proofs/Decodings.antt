-- What the characters of a string or a block string stand for: the computed answer is the relation's, both ways.
use Rattle.std.proofs.Common.{◌≡◌, ℕ, zero, suc, ◌+◌, ◌-◌, ◌*◌, ◌<◌, ◌≤◌, List, [], ◌∷◌, ◌++◌, length, take, drop, Bool, true, false, cond, eqb, Option, Some, None, refl, sym, ap, subst, ◌∙◌, arith, append_assoc}
use Rattle.std.specs.Prelude.{◌==◌, ◌||◌, nat_le, encode_utf8, if◌then◌else◌}
use Rattle.std.specs.Char.{digit_value, is_ascii_hexdigit}
use Rattle.std.proofs.lemmas.Bool.Decides.{nat_tests}
use Rattle.std.proofs.lemmas.List.{append-nil, take-append-drop, take_all, drop_all, drop-drop, length-take-le, length-drop}
use Rattle.gq_lex.specs.declared.quoted.Form.{Form}
use Rattle.gq_lex.specs.declared.quoted.Form.TheVariants.{Plain, Block}
use Rattle.gq_lex.specs.declared.quoted.Step.{Step}
use Rattle.gq_lex.specs.declared.quoted.Step.TheVariants.{Ends, Goes, Fails}
use Rattle.gq_lex.specs.Blocks.{is_source_byte, begins_quotes, begins_escape, IsBlockBody, closing, escape, source}
use Rattle.gq_lex.specs.Bytes.{look_up}
use Rattle.gq_lex.specs.Decoding.{scalar_value, second_value, unit_value, escaped_value, escape_value, character_value, block_character_value, value_at, with_front, decoded, string_at, raw_at}
use Rattle.gq_lex.specs.Scanning.{byte_at, unit_at, string_step, block_step, step_at}
use Rattle.gq_lex.specs.Strings.{is_quote, escapes, IsEscapedUnit, escaped_unit, is_high_surrogate, is_low_surrogate, is_surrogate, paired, IsCharacter, plain, escaped, unicode, pair, AreCharacters, none, more}
use Rattle.gq_lex.specs.Values.{IsStringValue}
use Rattle.gq_lex.proofs.Characters.{unit_is, unit_behind, no_surrogate, plain_tests, character_is, character_first, character_told, quote_told, ends_inj, goes_inj}
use Rattle.gq_lex.proofs.Quotes.{begins_told, block_source, front_some, step_goes_within}
use Rattle.gq_lex.proofs.Runs.{found_holds, not_true, is_number}

hex_small : (b : ℕ) → is_ascii_hexdigit b ≡ true → digit_value b < 16
hex_small b h = grind (arith, nat_tests)

pub unit_small : {part : List ℕ} {unit : ℕ} → IsEscapedUnit part unit → unit < 65536
unit_small (escaped_unit {a} {b} {c} {d} ha hb hc hd is) =
    let sa = hex_small a ha in
    let sb = hex_small b hb in
    let sc = hex_small c hc in
    let sd = hex_small d hd in
    small (digit_value a) (digit_value b) (digit_value c) (digit_value d) _ sa sb sc sd is
  where
    small : (a b c d unit : ℕ) → a < 16 → b < 16 → c < 16 → d < 16 → unit ≡ 4096 * a + 256 * b + 16 * c + d → unit < 65536
    small a b c d unit sa sb sc sd is = omega (arith, sa, sb, sc, sd, is)

single_value : (unit : ℕ) → is_surrogate unit ≡ false → unit < 65536 → scalar_value unit ≡ encode_utf8 unit
single_value unit single small =
    let within : nat_le 0x110000 unit ≡ false = grind (arith, nat_tests) in
    ap (λ t. cond (t || nat_le 0x110000 unit) [] (encode_utf8 unit)) single ∙ ap (λ t. cond t [] (encode_utf8 unit)) within

pair_value : (high low : ℕ) → is_high_surrogate high ≡ true → is_low_surrogate low ≡ true → scalar_value (paired high low) ≡ encode_utf8 (paired high low)
pair_value high low h l =
    let single : is_surrogate (paired high low) ≡ false = grind (arith, nat_tests) in
    let within : nat_le 0x110000 (paired high low) ≡ false = grind (arith, nat_tests) in
    ap (λ t. cond (t || nat_le 0x110000 (paired high low)) [] (encode_utf8 (paired high low))) single ∙ ap (λ t. cond t [] (encode_utf8 (paired high low))) within

unit_front : {part : List ℕ} {unit : ℕ} (rest : List ℕ) → IsEscapedUnit part unit → character_value (part ++ rest) ≡ unit_value (part ++ rest) (unit_at (part ++ rest))
unfolding character_value
unit_front rest (escaped_unit ha hb hc hd is) = refl

-- what the character at the front stands for
pub character_value_is : {part value : List ℕ} (rest : List ℕ) → IsCharacter part value → character_value (part ++ rest) ≡ value
unfolding character_value
character_value_is rest (plain {b} h) =
    ap (λ t. cond t (escape_value (byte_at rest 0) (b ∷ rest)) (b ∷ [])) (plain_tests b h).1
character_value_is rest (escaped {b} {c} h) =
    let other : eqb b 117 ≡ false = not_true (eqb b 117) (found_holds (λ n. cond (eqb n 117) false true) escapes b c h refl) in
    ap (λ t. cond t (unit_value (92 ∷ b ∷ rest) (unit_at (92 ∷ b ∷ rest))) (escaped_value (look_up b escapes))) other
    ∙ ap escaped_value h
character_value_is {part} rest (unicode unit h single value_is) =
    let t = no_surrogate unit single in
    unit_front rest h
    ∙ ap (unit_value (part ++ rest)) (unit_is rest h)
    ∙ ap (λ q. cond q (second_value unit (unit_at (drop 6 (part ++ rest)))) (scalar_value unit)) t.0
    ∙ single_value unit single (unit_small h) ∙ sym value_is
character_value_is {part} rest (pair first second high low is h h_is l l_is value_is) =
    let bs : List ℕ = first ++ (second ++ rest) in
    let same : part ++ rest ≡ bs = ap (λ x. x ++ rest) is ∙ append_assoc first second rest in
    ap character_value same
    ∙ unit_front (second ++ rest) h
    ∙ ap (unit_value bs) (unit_is (second ++ rest) h)
    ∙ ap (λ q. cond q (second_value high (unit_at (drop 6 bs))) (scalar_value high)) h_is
    ∙ ap (λ x. second_value high (unit_at x)) (unit_behind (second ++ rest) h)
    ∙ ap (second_value high) (unit_is rest l)
    ∙ ap (λ t. cond t (scalar_value (paired high low)) []) l_is
    ∙ pair_value high low h_is l_is ∙ sym value_is

-- passing over the first bytes
decoded_skip : (form : Form) (xs rest : List ℕ) → decoded form (xs ++ rest) (length xs) ≡ decoded form rest 0
unfolding decoded
decoded_skip form [] rest = refl
decoded_skip form (x ∷ xs) rest = decoded_skip form xs rest

abbrev decoded_by : Form → ℕ → List ℕ → Step → Option (List ℕ)
decoded_by form b bs s = elim s [ Ends n ↦ if length (b ∷ bs) == n then Some [] else None | Goes n ↦ with_front (value_at form (b ∷ bs)) (decoded form bs (n - 1)) | Fails ↦ None ]

decoded_front : (form : Form) (b : ℕ) (bs : List ℕ) (s : Step) → step_at form (b ∷ bs) ≡ s → decoded form (b ∷ bs) 0 ≡ decoded_by form b bs s
unfolding decoded
decoded_front form b bs s e = ap (decoded_by form b bs) e

-- over a part whose length is the step's
decoded_over : (form : Form) (part rest : List ℕ) → 0 < length part → step_at form (part ++ rest) ≡ Goes (length part) → decoded form (part ++ rest) 0 ≡ with_front (value_at form (part ++ rest)) (decoded form rest 0)
decoded_over form [] rest some e = absurd (omega (arith, some))
decoded_over form (x ∷ xs) rest some e =
    let one : length (x ∷ xs) - 1 ≡ length xs = omega arith in
    decoded_front form x (xs ++ rest) (Goes (length (x ∷ xs))) e
    ∙ ap (λ n. with_front (value_at form (x ∷ (xs ++ rest))) (decoded form (xs ++ rest) n)) one
    ∙ ap (with_front (value_at form (x ∷ (xs ++ rest)))) (decoded_skip form xs rest)

-- characters and the quotation mark behind them
characters_decoded : {body value : List ℕ} → AreCharacters body value → decoded Plain (body ++ 34 ∷ []) 0 ≡ Some value
unfolding decoded string_step
characters_decoded none = refl
characters_decoded {body} (more part behind one others is character rest value_is) =
    ap (λ l. decoded Plain (l ++ 34 ∷ []) 0) is
    ∙ ap (λ l. decoded Plain l 0) (append_assoc part behind (34 ∷ []))
    ∙ decoded_over Plain part (behind ++ 34 ∷ []) (front_some (character_first character)) (character_is (behind ++ 34 ∷ []) character)
    ∙ ap (with_front (character_value (part ++ (behind ++ 34 ∷ [])))) (characters_decoded rest)
    ∙ ap (λ v. Some (v ++ others)) (character_value_is (behind ++ 34 ∷ []) character)
    ∙ ap Some (sym value_is)

body_decoded : {text raw : List ℕ} → IsBlockBody text raw → decoded Block text 0 ≡ Some raw
unfolding decoded block_step
body_decoded closing = refl
body_decoded (escape {text} {raw} rest) =
    decoded_over Block (92 ∷ 34 ∷ 34 ∷ 34 ∷ []) text (omega arith) refl ∙ ap (with_front (34 ∷ 34 ∷ 34 ∷ [])) (body_decoded rest)
body_decoded (source {b} {text} {raw} is quotes escapes rest) =
    decoded_over Block (b ∷ []) text (omega arith) (block_source (b ∷ text) quotes escapes is)
    ∙ ap (λ t. with_front (cond t (34 ∷ 34 ∷ 34 ∷ []) (b ∷ [])) (decoded Block text 0)) escapes
    ∙ ap (with_front (b ∷ [])) (body_decoded rest)

-- what was decoded stands for it
record StringEnd (text value : List ℕ) : Type 0 where
  body : List ℕ
  is : text ≡ body ++ 34 ∷ []
  characters : AreCharacters body value

abbrev Holds : Form → List ℕ → List ℕ → Type 0
Holds Plain text value = StringEnd text value
Holds Block text value = IsBlockBody text value

whole_if : (n m : ℕ) {value : List ℕ} → cond (eqb n m) (Some []) None ≡ Some value → (n ≡ m) × ([] ≡ value)
whole_if n m {value} h = by_test (eqb n m) refl h
  where
    by_test : (t : Bool) → eqb n m ≡ t → ◌≡◌ {A = Option (List ℕ)} (cond t (Some []) None) (Some value) → (n ≡ m) × ([] ≡ value)
    by_test true e h = (grind (arith, nat_tests), cc)
    by_test false e h = absurd (cc)

ends_string : (bs value : List ℕ) (n : ℕ) → string_step bs ≡ Ends n → length bs ≡ n → [] ≡ value → StringEnd bs value
ends_string bs value n h long is =
    let q = quote_told bs n h in
    let whole : bs ≡ 34 ∷ [] = sym (take_all 1 bs (omega (arith, long, q.one))) ∙ q.is in
    record { body = []; is = whole; characters = subst (AreCharacters []) is none }

goes_string : (bs value : List ℕ) (n : ℕ) → string_step bs ≡ Goes n → StringEnd (drop n bs) value → StringEnd bs (character_value bs ++ value)
goes_string bs value n h end =
    let c = character_told bs n h in
    let split : take n bs ++ drop n bs ≡ bs = take-append-drop n bs in
    let same : character_value bs ≡ c.value = ap character_value (sym split) ∙ character_value_is (drop n bs) c.is in
    record {
      body = take n bs ++ end.body;
      is = sym split ∙ ap (λ l. take n bs ++ l) end.is ∙ sym (append_assoc (take n bs) end.body (34 ∷ []));
      characters = more (take n bs) end.body c.value value refl c.is end.characters (ap (λ l. l ++ value) same);
    }

ends_block_by : (bs value : List ℕ) (n : ℕ) (t u v : Bool) → begins_quotes bs ≡ t → cond t (Ends 3) (cond u (Goes 4) (cond v (Goes 1) Fails)) ≡ Ends n → length bs ≡ n → [] ≡ value → IsBlockBody bs value
ends_block_by bs value n true u v e h long is =
    let split = begins_told bs (34 ∷ 34 ∷ 34 ∷ []) e in
    let three = ends_inj h in
    let nothing : drop 3 bs ≡ [] = drop_all 3 bs (omega (arith, long, three)) in
    let whole : bs ≡ 34 ∷ 34 ∷ 34 ∷ [] = split ∙ ap (λ l. 34 ∷ 34 ∷ 34 ∷ l) nothing in
    let P : List ℕ → Type 0 = λ l. IsBlockBody l value in
    subst P (sym whole) (subst (IsBlockBody (34 ∷ 34 ∷ 34 ∷ [])) is closing)
ends_block_by bs value n false true v e h long is = absurd (cc)
ends_block_by bs value n false false true e h long is = absurd (cc)
ends_block_by bs value n false false false e h long is = absurd (cc)

ends_block : (bs value : List ℕ) (n : ℕ) → block_step bs ≡ Ends n → length bs ≡ n → [] ≡ value → IsBlockBody bs value
unfolding block_step
ends_block bs value n h long is = ends_block_by bs value n (begins_quotes bs) (begins_escape bs) (is_source_byte (byte_at bs 0)) refl h long is

source_value : (bs value : List ℕ) → begins_quotes bs ≡ false → begins_escape bs ≡ false → is_source_byte (byte_at bs 0) ≡ true → IsBlockBody (drop 1 bs) value → IsBlockBody bs (byte_at bs 0 ∷ value)
source_value [] value quotes escapes is rest = absurd (cc)
source_value (b ∷ bs) value quotes escapes is rest = source is quotes escapes rest

goes_block_by : (bs value : List ℕ) (n : ℕ) (t u v : Bool) → begins_quotes bs ≡ t → begins_escape bs ≡ u → is_source_byte (byte_at bs 0) ≡ v → cond t (Ends 3) (cond u (Goes 4) (cond v (Goes 1) Fails)) ≡ Goes n →
    IsBlockBody (drop n bs) value → IsBlockBody bs (cond u (34 ∷ 34 ∷ 34 ∷ []) (byte_at bs 0 ∷ []) ++ value)
goes_block_by bs value n true u v e1 e2 e3 h rest = absurd (cc)
goes_block_by bs value n false true v e1 e2 e3 h rest =
    let split = begins_told bs (92 ∷ 34 ∷ 34 ∷ 34 ∷ []) e2 in
    let P : List ℕ → Type 0 = λ l. IsBlockBody l (34 ∷ 34 ∷ 34 ∷ value) in
    let Q : ℕ → Type 0 = λ k. IsBlockBody (drop k bs) value in
    subst P (sym split) (escape (subst Q (sym (goes_inj h)) rest))
goes_block_by bs value n false false true e1 e2 e3 h rest =
    let Q : ℕ → Type 0 = λ k. IsBlockBody (drop k bs) value in
    source_value bs value e1 e2 e3 (subst Q (sym (goes_inj h)) rest)
goes_block_by bs value n false false false e1 e2 e3 h rest = absurd (cc)

goes_block : (bs value : List ℕ) (n : ℕ) → block_step bs ≡ Goes n → IsBlockBody (drop n bs) value → IsBlockBody bs (block_character_value bs ++ value)
unfolding block_step
goes_block bs value n h rest = goes_block_by bs value n (begins_quotes bs) (begins_escape bs) (is_source_byte (byte_at bs 0)) refl refl refl h rest

ends_at : (form : Form) (bs value : List ℕ) (n : ℕ) → step_at form bs ≡ Ends n → length bs ≡ n → [] ≡ value → Holds form bs value
ends_at Plain bs value n h long is = ends_string bs value n h long is
ends_at Block bs value n h long is = ends_block bs value n h long is

goes_at : (form : Form) (bs value : List ℕ) (n : ℕ) → step_at form bs ≡ Goes n → Holds form (drop n bs) value → Holds form bs (value_at form bs ++ value)
goes_at Plain bs value n h rest = goes_string bs value n h rest
goes_at Block bs value n h rest = goes_block bs value n h rest

record Fronted (front : List ℕ) (o : Option (List ℕ)) (value : List ℕ) : Type 0 where
  others : List ℕ
  was : o ≡ Some others
  is : front ++ others ≡ value

fronted : (front : List ℕ) (o : Option (List ℕ)) (value : List ℕ) → with_front front o ≡ Some value → Fronted front o value
fronted front None value h = absurd (cc)
fronted front (Some others) value h = record { others = others; was = refl; is = cc }

told_by : (form : Form) (b : ℕ) (bs value : List ℕ) (s : Step) → ((k : ℕ) (v : List ℕ) → decoded form bs k ≡ Some v → Holds form (drop k bs) v) → step_at form (b ∷ bs) ≡ s → decoded_by form b bs s ≡ Some value → Holds form (b ∷ bs) value
told_by form b bs value (Ends n) again e h = let w = whole_if (length (b ∷ bs)) n h in ends_at form (b ∷ bs) value n e w.0 w.1
told_by form b bs value (Goes zero) again e h = absurd (omega (arith, (step_goes_within form (b ∷ bs) 0 e).0))
told_by form b bs value (Goes (suc m)) again e h =
    let one : suc m - 1 ≡ m = omega arith in
    let f = fronted (value_at form (b ∷ bs)) (decoded form bs (suc m - 1)) value h in
    subst (Holds form (b ∷ bs)) f.is (goes_at form (b ∷ bs) f.others (suc m) e (again m f.others (ap (decoded form bs) (sym one) ∙ f.was)))
told_by form b bs value Fails again e h = absurd (cc)

decoded_told : (form : Form) (bs : List ℕ) (k : ℕ) (value : List ℕ) → decoded form bs k ≡ Some value → Holds form (drop k bs) value
unfolding decoded
decoded_told form [] k value h = absurd (cc)
decoded_told form (b ∷ bs) zero value h = told_by form b bs value (step_at form (b ∷ bs)) (decoded_told form bs) refl h
decoded_told form (b ∷ bs) (suc k) value h = decoded_told form bs k value h

-- a string's value
string_told_by : (bs value : List ℕ) (t : Bool) → is_quote (byte_at bs 0) ≡ t → cond t (decoded Plain (drop 1 bs) 0) None ≡ Some value → IsStringValue bs value
string_told_by bs value false e h = absurd (cc)
string_told_by [] value true e h = absurd (cc)
string_told_by (b ∷ bs) value true e h =
    let end = decoded_told Plain bs 0 value h in
    record { body = end.body; is = ap (λ n. n ∷ bs) (is_number b 34 e) ∙ ap (λ l. 34 ∷ l) end.is; characters = end.characters }

pub string_told : (bs value : List ℕ) → string_at bs ≡ Some value → IsStringValue bs value
unfolding string_at
string_told bs value h = string_told_by bs value (is_quote (byte_at bs 0)) refl h

pub string_decoded : (bs value : List ℕ) → IsStringValue bs value → string_at bs ≡ Some value
unfolding string_at
string_decoded bs value h = ap string_at h.is ∙ characters_decoded h.characters

-- a block string's characters
pub record IsRaw (text raw : List ℕ) : Type 0 where
  pub body : List ℕ
  pub is : text ≡ 34 ∷ 34 ∷ 34 ∷ body
  pub characters : IsBlockBody body raw

raw_told_by : (bs raw : List ℕ) (t : Bool) → begins_quotes bs ≡ t → cond t (decoded Block (drop 3 bs) 0) None ≡ Some raw → IsRaw bs raw
raw_told_by bs raw false e h = absurd (cc)
raw_told_by bs raw true e h = record { body = drop 3 bs; is = begins_told bs (34 ∷ 34 ∷ 34 ∷ []) e; characters = decoded_told Block (drop 3 bs) 0 raw h }

pub raw_told : (bs raw : List ℕ) → raw_at bs ≡ Some raw → IsRaw bs raw
unfolding raw_at
raw_told bs raw h = raw_told_by bs raw (begins_quotes bs) refl h

pub raw_decoded : (bs raw : List ℕ) → IsRaw bs raw → raw_at bs ≡ Some raw
unfolding raw_at
raw_decoded bs raw h = ap raw_at h.is ∙ body_decoded h.characters

-- a turn of the decoding: what is done and what is left give the whole
abbrev pub Left : Form → List ℕ → List ℕ → ℕ → Type 0
Left form bytes out at = decoded form bytes 0 ≡ with_front out (decoded form (drop at bytes) 0)

fronted_twice : (a b : List ℕ) (o : Option (List ℕ)) → with_front a (with_front b o) ≡ with_front (a ++ b) o
fronted_twice a b None = refl
fronted_twice a b (Some c) = ap Some (sym (append_assoc a b c))

no_front : (o : Option (List ℕ)) → o ≡ with_front [] o
no_front None = refl
no_front (Some c) = refl

decoded_first : (form : Form) (bs : List ℕ) (s : Step) → 0 < length bs → step_at form bs ≡ s → decoded form bs 0 ≡ elim s [ Ends n ↦ if length bs == n then Some [] else None | Goes n ↦ with_front (value_at form bs) (decoded form (drop 1 bs) (n - 1)) | Fails ↦ None ]
decoded_first form [] s some e = absurd (omega (arith, some))
decoded_first form (b ∷ bs) s some e = decoded_front form b bs s e

behind_some : (bytes : List ℕ) (at : ℕ) → at < length bytes → 0 < length (drop at bytes)
behind_some bytes at h = omega (arith, h, length-drop at bytes)

pub left_first : (form : Form) (bytes : List ℕ) → Left form bytes [] 0
left_first form bytes = no_front (decoded form bytes 0)

ended : (out : List ℕ) (t : Bool) → with_front out (cond t (Some []) None) ≡ cond t (Some out) None
ended out true = ap Some (append-nil out)
ended out false = refl

pub left_ends : (form : Form) (bytes out : List ℕ) (at n : ℕ) → at < length bytes → Left form bytes out at → step_at form (drop at bytes) ≡ Ends n → decoded form bytes 0 ≡ cond (eqb (length (drop at bytes)) n) (Some out) None
left_ends form bytes out at n within left e = left ∙ ap (with_front out) (decoded_first form (drop at bytes) (Ends n) (behind_some bytes at within) e) ∙ ended out (eqb (length (drop at bytes)) n)

pub left_fails : (form : Form) (bytes out : List ℕ) (at : ℕ) → at < length bytes → Left form bytes out at → step_at form (drop at bytes) ≡ Fails → decoded form bytes 0 ≡ None
left_fails form bytes out at within left e = left ∙ ap (with_front out) (decoded_first form (drop at bytes) Fails (behind_some bytes at within) e)

pub left_all : (form : Form) (bytes out : List ℕ) (at : ℕ) → length bytes ≤ at → Left form bytes out at → decoded form bytes 0 ≡ None
unfolding decoded
left_all form bytes out at past left = left ∙ ap (λ l. with_front out (decoded form l 0)) (drop_all at bytes past)

-- what a turn keeps
pub record Onward (form : Form) (bytes out : List ℕ) (at n : ℕ) : Type 0 where
  pub some : 0 < n
  pub within : at + n ≤ length bytes
  pub left : Left form bytes (out ++ value_at form (drop at bytes)) (at + n)

pub left_goes : (form : Form) (bytes out : List ℕ) (at n : ℕ) → at < length bytes → Left form bytes out at → step_at form (drop at bytes) ≡ Goes n → Onward form bytes out at n
left_goes form bytes out at n within left e =
    let rest : List ℕ = drop at bytes in
    let step = step_goes_within form rest n e in
    let long : length (take n rest) ≡ n = length-take-le n rest step.1 in
    let whole : take n rest ++ drop n rest ≡ rest = take-append-drop n rest in
    let over : decoded form rest 0 ≡ with_front (value_at form rest) (decoded form (drop n rest) 0) =
    ap (λ l. decoded form l 0) (sym whole)
    ∙ decoded_over form (take n rest) (drop n rest) (omega (arith, long, step.0)) (ap (step_at form) whole ∙ e ∙ ap Goes (sym long))
    ∙ ap (λ l. with_front (value_at form l) (decoded form (drop n rest) 0)) whole in
    record {
      some = step.0;
      within = omega (arith, within, step.1, length-drop at bytes);
      left = left ∙ ap (with_front out) over ∙ fronted_twice out (value_at form rest) (decoded form (drop n rest) 0) ∙ ap (λ l. with_front (out ++ value_at form rest) (decoded form l 0)) (drop-drop n at bytes);
    }

-- What a string or a block string of a text stands for is text again.
use Rattle.std.proofs.Common.{◌≡◌, ℕ, ◌+◌, ◌<◌, List, [], ◌∷◌, ◌++◌, length, drop, get_or, Bool, true, false, cond, eqb, Option, Some, refl, sym, ap, subst, ◌∙◌, arith, length-append, append_assoc}
use Rattle.std.specs.Prelude.{IsUtf8, encode_utf8}
use Rattle.std.specs.Char.{IsScalar, is_ascii_hexdigit}
use Rattle.std.proofs.lemmas.Bool.Decides.{nat_tests}
use Rattle.std.proofs.lemmas.List.{append-nil, take_at, drop_at, get_or_at}
use Rattle.std.proofs.lemmas.List.Elements.{All-nil, All-cons}
use Rattle.std.proofs.lemmas.Str.Ascii.{IsAscii-from_all}
use Rattle.std.proofs.lemmas.Str.{IsUtf8-append, IsUtf8-take, IsUtf8-drop, IsUtf8-encode, IsUtf8-from_ascii, IsCharBoundary-before_ascii, IsCharBoundary-after_ascii}
use Rattle.gq_lex.specs.Blocks.{IsBlockBody, closing, escape, source}
use Rattle.gq_lex.specs.Bytes.{Passes, look_up}
use Rattle.gq_lex.specs.Strings.{escapes, IsEscapedUnit, escaped_unit, is_high_surrogate, is_low_surrogate, is_surrogate, paired, IsCharacter, plain, escaped, unicode, pair, AreCharacters, none, more}
use Rattle.gq_lex.specs.Values.{IsStringValue}
use Rattle.gq_lex.proofs.Decodings.{unit_small, IsRaw}
use Rattle.gq_lex.proofs.Edges.{is_ascii, below, passes_append}
use Rattle.gq_lex.proofs.Runs.{found_holds, both_true, some_inj}

-- text on both sides of an ASCII byte
pub cut_at_ascii : (front : List ℕ) (b : ℕ) (rest : List ℕ) → b < 128 → IsUtf8 (front ++ b ∷ rest) → IsUtf8 front × IsUtf8 rest
cut_at_ascii front b rest ascii utf8 =
    let bs : List ℕ = front ++ b ∷ rest in
    let within : length front < length bs = omega (arith, length-append front (b ∷ rest)) in
    let here : get_or bs (length front) 0 < 128 = omega (arith, ascii, get_or_at front b rest 0 (length front) refl) in
    let behind : drop (length front + 1) bs ≡ rest = ap (drop (length front + 1)) (sym (append_assoc front (b ∷ []) rest)) ∙ drop_at (front ++ b ∷ []) rest (length front + 1) (length-append front (b ∷ [])) in (
      subst IsUtf8 (take_at front (b ∷ rest) (length front) refl) (IsUtf8-take bs (length front) utf8 (IsCharBoundary-before_ascii bs (length front) within here)),
      subst IsUtf8 behind (IsUtf8-drop bs (length front + 1) utf8 (IsCharBoundary-after_ascii bs (length front) utf8 within here)),
    )

-- text on both sides of ASCII
cut_over_ascii : (front : List ℕ) (b : ℕ) (bs rest : List ℕ) → Passes is_ascii (b ∷ bs) → IsUtf8 (front ++ ((b ∷ bs) ++ rest)) → IsUtf8 front × IsUtf8 rest
cut_over_ascii front b [] rest ascii utf8 = cut_at_ascii front b rest (below b ascii.0) utf8
cut_over_ascii front b (c ∷ bs) rest ascii utf8 =
    let cut = cut_at_ascii front b ((c ∷ bs) ++ rest) (below b ascii.0) utf8 in
    (cut.0, (cut_over_ascii [] c bs rest ascii.1 cut.1).1)

hex_ascii : (b : ℕ) → is_ascii_hexdigit b ≡ true → is_ascii b ≡ true
hex_ascii b h = grind (arith, nat_tests)

-- ASCII, one byte at least
record Marks (part : List ℕ) : Type 0 where
  first : ℕ
  others : List ℕ
  is : part ≡ first ∷ others
  ascii : Passes is_ascii (first ∷ others)

unit_marks : {part : List ℕ} {unit : ℕ} → IsEscapedUnit part unit → Marks part
unit_marks (escaped_unit {a} {b} {c} {d} ha hb hc hd is) =
    record { first = 92; others = 117 ∷ a ∷ b ∷ c ∷ d ∷ []; is = refl; ascii = (refl, (refl, (hex_ascii a ha, (hex_ascii b hb, (hex_ascii c hc, (hex_ascii d hd, tt)))))) }

both_marks : {part : List ℕ} (first second : List ℕ) → part ≡ first ++ second → Marks first → Marks second → Marks part
both_marks first second is m n = record {
  first = m.first;
  others = m.others ++ (n.first ∷ n.others);
  is = is ∙ ap (λ l. l ++ second) m.is ∙ ap (λ l. (m.first ∷ m.others) ++ l) n.is;
  ascii = passes_append is_ascii (m.first ∷ m.others) (n.first ∷ n.others) m.ascii n.ascii;
}

-- over marks that stand for text
over_marks : (front part after one others : List ℕ) → Marks part → IsUtf8 one → IsUtf8 (front ++ (part ++ after)) → (IsUtf8 after → IsUtf8 others) → IsUtf8 (front ++ (one ++ others))
over_marks front part after one others marks one_utf8 utf8 again =
    let whole : front ++ (part ++ after) ≡ front ++ ((marks.first ∷ marks.others) ++ after) = ap (λ l. front ++ (l ++ after)) marks.is in
    let cut = cut_over_ascii front marks.first marks.others after marks.ascii (subst IsUtf8 whole utf8) in
    IsUtf8-append front (one ++ others) cut.0 (IsUtf8-append one others one_utf8 (again cut.1))

-- a test that holds of the values along a table holds of what is found in it
abbrev pub holds_of_values : {X : Type 0} → (X → Bool) → List (ℕ × X) → Bool
holds_of_values t [] = true
holds_of_values t (e ∷ es) = cond (t e.1) (holds_of_values t es) false

first_or_later : {X : Type 0} (t : X → Bool) (b : Bool) (y x : X) (others : Option X) → cond b (Some y) others ≡ Some x → t y ≡ true → (others ≡ Some x → t x ≡ true) → t x ≡ true
first_or_later t true y x others h here later = ap t (sym (some_inj h)) ∙ here
first_or_later t false y x others h here later = later h

pub found_value : {X : Type 0} (t : X → Bool) (es : List (ℕ × X)) (n : ℕ) (x : X) → look_up n es ≡ Some x → holds_of_values t es ≡ true → t x ≡ true
found_value t [] n x found holds = cc
found_value t (e ∷ es) n x found holds =
    let both = both_true (t e.1) (holds_of_values t es) holds in
    first_or_later t (eqb n e.0) e.1 x (look_up n es) found both.0 (λ h. found_value t es n x h both.1)

escaped_marks : (b c : ℕ) → look_up b escapes ≡ Some c → Marks (92 ∷ b ∷ [])
escaped_marks b c h = record { first = 92; others = b ∷ []; is = refl; ascii = (refl, (found_holds is_ascii escapes b c h refl, tt)) }

pub one_ascii : (c : ℕ) → c < 128 → IsUtf8 (c ∷ [])
one_ascii c h = IsUtf8-from_ascii (c ∷ []) (IsAscii-from_all (c ∷ []) (All-cons (λ b. b < 128) c [] h (All-nil (λ b. b < 128))))

escaped_utf8 : (b c : ℕ) → look_up b escapes ≡ Some c → IsUtf8 (c ∷ [])
escaped_utf8 b c h = one_ascii c (below c (found_value is_ascii escapes b c h refl))

unit_utf8 : (unit : ℕ) (value : List ℕ) → is_surrogate unit ≡ false → unit < 65536 → value ≡ encode_utf8 unit → IsUtf8 value
unit_utf8 unit value single small is =
    let scalar : IsScalar unit = grind (arith, nat_tests) in
    subst IsUtf8 (sym is) (IsUtf8-encode unit scalar)

pair_utf8 : (high low : ℕ) (value : List ℕ) → is_high_surrogate high ≡ true → is_low_surrogate low ≡ true → value ≡ encode_utf8 (paired high low) → IsUtf8 value
pair_utf8 high low value h l is =
    let scalar : IsScalar (paired high low) = grind (arith, nat_tests) in
    subst IsUtf8 (sym is) (IsUtf8-encode (paired high low) scalar)

-- what a character stands for, in text
over_character : {part one : List ℕ} (front after others : List ℕ) → IsCharacter part one → IsUtf8 (front ++ (part ++ after)) → ((front : List ℕ) → IsUtf8 (front ++ after) → IsUtf8 (front ++ others)) → IsUtf8 (front ++ (one ++ others))
over_character front after others (plain {b} h) utf8 again =
    subst IsUtf8 (append_assoc front (b ∷ []) others) (again (front ++ b ∷ []) (subst IsUtf8 (sym (append_assoc front (b ∷ []) after)) utf8))
over_character front after others (escaped {b} {c} h) utf8 again =
    over_marks front (92 ∷ b ∷ []) after (c ∷ []) others (escaped_marks b c h) (escaped_utf8 b c h) utf8 (again [])
over_character {part} {one} front after others (unicode unit h single is) utf8 again =
    over_marks front part after one others (unit_marks h) (unit_utf8 unit one single (unit_small h) is) utf8 (again [])
over_character {part} {one} front after others (pair first second high low part_is h h_is l l_is is) utf8 again =
    over_marks front part after one others (both_marks first second part_is (unit_marks h) (unit_marks l)) (pair_utf8 high low one h_is l_is is) utf8 (again [])

characters_utf8 : {text value : List ℕ} (front : List ℕ) → AreCharacters text value → IsUtf8 (front ++ text) → IsUtf8 (front ++ value)
characters_utf8 front none utf8 = utf8
characters_utf8 front (more part after one others is character rest value_is) utf8 =
    subst (λ l. IsUtf8 (front ++ l)) (sym value_is) (over_character front after others character (subst (λ l. IsUtf8 (front ++ l)) is utf8) (λ f. characters_utf8 f rest))

-- a string's value is text
pub string_utf8 : (text value : List ℕ) → IsUtf8 text → IsStringValue text value → IsUtf8 value
string_utf8 text value utf8 h =
    let behind = (cut_at_ascii [] 34 (h.body ++ 34 ∷ []) (omega arith) (subst IsUtf8 h.is utf8)).1 in
    characters_utf8 [] h.characters (cut_at_ascii h.body 34 [] (omega arith) behind).0

-- what a block string's characters stand for is text
body_utf8 : {text raw : List ℕ} (front : List ℕ) → IsBlockBody text raw → IsUtf8 (front ++ text) → IsUtf8 (front ++ raw)
body_utf8 front closing utf8 =
    subst IsUtf8 (sym (append-nil front)) (cut_at_ascii front 34 (34 ∷ 34 ∷ []) (omega arith) utf8).0
body_utf8 front (escape {text} {raw} rest) utf8 =
    let marks : Marks (92 ∷ 34 ∷ 34 ∷ 34 ∷ []) = record { first = 92; others = 34 ∷ 34 ∷ 34 ∷ []; is = refl; ascii = (refl, (refl, (refl, (refl, tt)))) } in
    let quote : IsUtf8 (34 ∷ []) = one_ascii 34 (omega arith) in
    over_marks front (92 ∷ 34 ∷ 34 ∷ 34 ∷ []) text (34 ∷ 34 ∷ 34 ∷ []) raw marks (IsUtf8-append (34 ∷ []) (34 ∷ 34 ∷ []) quote (IsUtf8-append (34 ∷ []) (34 ∷ []) quote quote)) utf8 (body_utf8 [] rest)
body_utf8 front (source {b} {text} {raw} is quotes no_escape rest) utf8 =
    subst IsUtf8 (append_assoc front (b ∷ []) raw) (body_utf8 (front ++ b ∷ []) rest (subst IsUtf8 (sym (append_assoc front (b ∷ []) text)) utf8))

pub raw_utf8 : (text raw : List ℕ) → IsUtf8 text → IsRaw text raw → IsUtf8 raw
raw_utf8 text raw utf8 h = body_utf8 [] h.characters (cut_over_ascii [] 34 (34 ∷ 34 ∷ []) h.body (refl, (refl, (refl, tt))) (subst IsUtf8 h.is utf8)).1

-- A character of a string at the front of a text: the computed step is the relation's, both ways.
use Rattle.std.proofs.Common.{◌≡◌, ℕ, zero, suc, ◌<◌, ◌≤◌, List, [], ◌∷◌, ◌++◌, length, take, drop, Bool, true, false, cond, eqb, Option, Some, None, refl, sym, ap, subst, ◌∙◌, arith, append_assoc}
use Rattle.std.specs.Prelude.{◌||◌, ◌&&◌, encode_utf8}
use Rattle.std.specs.Char.{is_ascii_hexdigit}
use Rattle.std.proofs.Math.Seq.{take-add}
use Rattle.std.proofs.lemmas.Bool.{and_parts, and_from}
use Rattle.std.proofs.lemmas.Bool.Decides.{nat_tests}
use Rattle.std.proofs.lemmas.List.{length-drop, length-append}
use Rattle.gq_lex.specs.declared.quoted.Step.TheVariants.{Ends, Goes, Fails}
use Rattle.gq_lex.specs.Bytes.{look_up, is_comment_byte}
use Rattle.gq_lex.specs.Scanning.{byte_at, unit_at, second_step, unit_step, escaped_step, escape_step, string_step}
use Rattle.gq_lex.specs.Strings.{is_quote, is_plain_byte, escapes, code_unit, IsEscapedUnit, escaped_unit, is_high_surrogate, is_low_surrogate, is_surrogate, paired, IsCharacter, plain, escaped, unicode, pair}
use Rattle.gq_lex.proofs.Runs.{found_holds, not_true, is_number}

-- the code unit of an escape
pub unit_is : {part : List ℕ} {unit : ℕ} (rest : List ℕ) → IsEscapedUnit part unit → unit_at (part ++ rest) ≡ Some unit
unit_is rest (escaped_unit {a} {b} {c} {d} ha hb hc hd is) =
    ap (λ t. cond t (Some (code_unit a b c d)) None)
    (and_from _ (is_ascii_hexdigit d) (and_from _ (is_ascii_hexdigit c) (and_from _ (is_ascii_hexdigit b) ha hb) hc) hd)
    ∙ ap Some (sym is)

unit_long : {part : List ℕ} {unit : ℕ} → IsEscapedUnit part unit → length part ≡ 6
unit_long (escaped_unit ha hb hc hd is) = refl

unit_front : {part : List ℕ} {unit : ℕ} (rest : List ℕ) → IsEscapedUnit part unit → string_step (part ++ rest) ≡ unit_step (part ++ rest) (unit_at (part ++ rest))
unfolding string_step
unit_front rest (escaped_unit ha hb hc hd is) = refl

pub unit_behind : {part : List ℕ} {unit : ℕ} (rest : List ℕ) → IsEscapedUnit part unit → drop 6 (part ++ rest) ≡ rest
unit_behind rest (escaped_unit ha hb hc hd is) = refl

pub no_surrogate : (unit : ℕ) → is_surrogate unit ≡ false → (is_high_surrogate unit ≡ false) × (is_low_surrogate unit ≡ false)
no_surrogate unit h = neither (is_high_surrogate unit) (is_low_surrogate unit) h
  where
    neither : (a b : Bool) → (a || b) ≡ false → (a ≡ false) × (b ≡ false)
    neither true b h = absurd (cc)
    neither false b h = (refl, h)

pub plain_tests : (b : ℕ) → is_plain_byte b ≡ true → (is_quote b ≡ false) × (eqb b 92 ≡ false) × (is_comment_byte b ≡ true)
plain_tests b h = (grind (arith, nat_tests), grind (arith, nat_tests), grind (arith, nat_tests))

plain_if : (b : ℕ) → is_quote b ≡ false → eqb b 92 ≡ false → is_comment_byte b ≡ true → is_plain_byte b ≡ true
plain_if b h1 h2 h3 = grind (arith, nat_tests)

-- a character's length is the step's
pub character_is : {part value : List ℕ} (rest : List ℕ) → IsCharacter part value → string_step (part ++ rest) ≡ Goes (length part)
unfolding string_step
character_is rest (plain {b} h) =
    let t = plain_tests b h in
    ap (λ q. cond q (Ends 1) (cond (eqb b 92) (escape_step (byte_at rest 0) (b ∷ rest)) (cond (is_comment_byte b) (Goes 1) Fails))) t.0
    ∙ ap (λ q. cond q (escape_step (byte_at rest 0) (b ∷ rest)) (cond (is_comment_byte b) (Goes 1) Fails)) t.1
    ∙ ap (λ q. cond q (Goes 1) Fails) t.2
character_is rest (escaped {b} {c} h) =
    let other : eqb b 117 ≡ false = not_true (eqb b 117) (found_holds (λ n. cond (eqb n 117) false true) escapes b c h refl) in
    ap (λ t. cond t (unit_step (92 ∷ b ∷ rest) (unit_at (92 ∷ b ∷ rest))) (escaped_step (look_up b escapes))) other
    ∙ ap escaped_step h
character_is {part} rest (unicode unit h single value_is) =
    let t = no_surrogate unit single in
    unit_front rest h
    ∙ ap (unit_step (part ++ rest)) (unit_is rest h)
    ∙ ap (λ q. cond q (second_step (unit_at (drop 6 (part ++ rest)))) (cond (is_low_surrogate unit) Fails (Goes 6))) t.0
    ∙ ap (λ q. cond q Fails (Goes 6)) t.1
    ∙ ap Goes (sym (unit_long h))
character_is {part} rest (pair first second high low is h h_is l l_is value_is) =
    let bs : List ℕ = first ++ (second ++ rest) in
    let same : part ++ rest ≡ bs = ap (λ x. x ++ rest) is ∙ append_assoc first second rest in
    let long : 12 ≡ length part = omega (arith, ap length is, length-append first second, unit_long h, unit_long l) in
    ap string_step same
    ∙ unit_front (second ++ rest) h
    ∙ ap (unit_step bs) (unit_is (second ++ rest) h)
    ∙ ap (λ q. cond q (second_step (unit_at (drop 6 bs))) (cond (is_low_surrogate high) Fails (Goes 6))) h_is
    ∙ ap (λ x. second_step (unit_at x)) (unit_behind (second ++ rest) h)
    ∙ ap second_step (unit_is rest l)
    ∙ ap (λ q. cond q (Goes 12) Fails) l_is
    ∙ ap Goes long

-- a character begins with no quotation mark
pub record Front (part : List ℕ) : Type 0 where
  pub first : ℕ
  pub others : List ℕ
  pub is : part ≡ first ∷ others
  pub no_quote : is_quote first ≡ false

unit_first : {part : List ℕ} {unit : ℕ} → IsEscapedUnit part unit → Front part
unit_first (escaped_unit {a} {b} {c} {d} ha hb hc hd is) = record { first = 92; others = 117 ∷ a ∷ b ∷ c ∷ d ∷ []; is = refl; no_quote = refl }

pub character_first : {part value : List ℕ} → IsCharacter part value → Front part
character_first (plain {b} h) = record { first = b; others = []; is = refl; no_quote = (plain_tests b h).0 }
character_first (escaped {b} h) = record { first = 92; others = b ∷ []; is = refl; no_quote = refl }
character_first (unicode unit h single value_is) = unit_first h
character_first (pair first second high low is h h_is l l_is value_is) =
    let f = unit_first h in
    record { first = f.first; others = f.others ++ second; is = is ∙ ap (λ x. x ++ second) f.is; no_quote = f.no_quote }

-- a byte that is not 0 stands within the text
byte_within : (p : ℕ → Bool) → p 0 ≡ false → (bs : List ℕ) (i : ℕ) → p (byte_at bs i) ≡ true → i < length bs
byte_within p none [] i h = let f = sym none ∙ h in cc
byte_within p none (b ∷ bs) zero h = omega arith
byte_within p none (b ∷ bs) (suc i) h = let f = byte_within p none bs i h in omega arith

six : (bs : List ℕ) → 5 < length bs → take 6 bs ≡ byte_at bs 0 ∷ byte_at bs 1 ∷ byte_at bs 2 ∷ byte_at bs 3 ∷ byte_at bs 4 ∷ byte_at bs 5 ∷ []
six [] h = absurd (omega (arith, h))
six (a ∷ []) h = absurd (omega (arith, h))
six (a ∷ b ∷ []) h = absurd (omega (arith, h))
six (a ∷ b ∷ c ∷ []) h = absurd (omega (arith, h))
six (a ∷ b ∷ c ∷ d ∷ []) h = absurd (omega (arith, h))
six (a ∷ b ∷ c ∷ d ∷ e ∷ []) h = absurd (omega (arith, h))
six (a ∷ b ∷ c ∷ d ∷ e ∷ f ∷ rest) h = refl

chosen : {X : Type 0} {x y : X} (t : Bool) → cond t (Some x) None ≡ Some y → (t ≡ true) × (x ≡ y)
chosen true h = (refl, cc)
chosen false h = absurd (cc)

-- what a computed code unit tells
record Unit6 (bs : List ℕ) (unit : ℕ) : Type 0 where
  within : 5 < length bs
  is : IsEscapedUnit (take 6 bs) unit

unit_told : (bs : List ℕ) (unit : ℕ) → unit_at bs ≡ Some unit → Unit6 bs unit
unit_told bs unit h =
    let h2 : Bool = is_ascii_hexdigit (byte_at bs 2) in
    let h3 : Bool = is_ascii_hexdigit (byte_at bs 3) in
    let h4 : Bool = is_ascii_hexdigit (byte_at bs 4) in
    let h5 : Bool = is_ascii_hexdigit (byte_at bs 5) in
    let t = chosen _ h in
    let p5 = and_parts (eqb (byte_at bs 0) 92 && eqb (byte_at bs 1) 117 && h2 && h3 && h4) h5 t.0 in
    let p4 = and_parts (eqb (byte_at bs 0) 92 && eqb (byte_at bs 1) 117 && h2 && h3) h4 p5.0 in
    let p3 = and_parts (eqb (byte_at bs 0) 92 && eqb (byte_at bs 1) 117 && h2) h3 p4.0 in
    let p2 = and_parts (eqb (byte_at bs 0) 92 && eqb (byte_at bs 1) 117) h2 p3.0 in
    let p1 = and_parts (eqb (byte_at bs 0) 92) (eqb (byte_at bs 1) 117) p2.0 in
    let within = byte_within is_ascii_hexdigit refl bs 5 p5.1 in
    let tail : List ℕ = byte_at bs 2 ∷ byte_at bs 3 ∷ byte_at bs 4 ∷ byte_at bs 5 ∷ [] in
    let front : take 6 bs ≡ 92 ∷ 117 ∷ tail = six bs within ∙ ap (λ n. n ∷ byte_at bs 1 ∷ tail) (is_number (byte_at bs 0) 92 p1.0) ∙ ap (λ n. 92 ∷ n ∷ tail) (is_number (byte_at bs 1) 117 p1.1) in
    let P : List ℕ → Type 0 = λ l. IsEscapedUnit l unit in
    record { within = within; is = subst P (sym front) (escaped_unit p2.1 p3.1 p4.1 p5.1 (sym t.1)) }

-- what a computed step tells
pub record CharacterAt (bs : List ℕ) (n : ℕ) : Type 0 where
  pub value : List ℕ
  pub some : 0 < n
  pub within : n ≤ length bs
  pub is : IsCharacter (take n bs) value

pub goes_inj : {n m : ℕ} → Goes n ≡ Goes m → n ≡ m
goes_inj h = cc

-- an escaped surrogate is followed by one that makes a pair with it
second_told : (bs : List ℕ) (high n : ℕ) (o : Option ℕ) → Unit6 bs high → is_high_surrogate high ≡ true → unit_at (drop 6 bs) ≡ o → second_step o ≡ Goes n → CharacterAt bs n
second_told bs high n None first is_high e h = absurd (cc)
second_told bs high n (Some low) first is_high e h = by_low (is_low_surrogate low) refl h
  where
    by_low : (t : Bool) → is_low_surrogate low ≡ t → cond t (Goes 12) Fails ≡ Goes n → CharacterAt bs n
    by_low false is_low h = absurd (cc)
    by_low true is_low h =
        let second = unit_told (drop 6 bs) low e in
        let at : CharacterAt bs 12 = record {
          value = encode_utf8 (paired high low);
          some = omega arith;
          within = omega (arith, first.within, second.within, length-drop 6 bs);
          is = pair (take 6 bs) (take 6 (drop 6 bs)) high low (take-add 6 6 bs) first.is is_high second.is is_low refl;
        } in
        subst (CharacterAt bs) (goes_inj h) at

unit_step_told : (bs : List ℕ) (n : ℕ) (o : Option ℕ) → unit_at bs ≡ o → unit_step bs o ≡ Goes n → CharacterAt bs n
unit_step_told bs n None e h = absurd (cc)
unit_step_told bs n (Some unit) e h = by_high (is_high_surrogate unit) (is_low_surrogate unit) refl refl h
  where
    by_high : (t u : Bool) → is_high_surrogate unit ≡ t → is_low_surrogate unit ≡ u → cond t (second_step (unit_at (drop 6 bs))) (cond u Fails (Goes 6)) ≡ Goes n → CharacterAt bs n
    by_high true u is_high is_low h = second_told bs unit n (unit_at (drop 6 bs)) (unit_told bs unit e) is_high refl h
    by_high false true is_high is_low h = absurd (cc)
    by_high false false is_high is_low h =
        let first = unit_told bs unit e in
        let single : is_surrogate unit ≡ false = ap (λ t. t || is_low_surrogate unit) is_high ∙ is_low in
        subst (CharacterAt bs) (goes_inj h) (record { value = encode_utf8 unit; some = omega arith; within = omega (arith, first.within); is = unicode unit first.is single refl })

escaped_told : (bs : List ℕ) (n : ℕ) (o : Option ℕ) → byte_at bs 0 ≡ 92 → look_up (byte_at bs 1) escapes ≡ o → escaped_step o ≡ Goes n → CharacterAt bs n
escaped_told bs n None front e h = absurd (cc)
escaped_told [] n (Some c) front e h = absurd (cc)
escaped_told (a ∷ []) n (Some c) front e h = absurd (cc)
escaped_told (a ∷ b ∷ rest) n (Some c) front e h =
    let P : ℕ → Type 0 = λ x. CharacterAt (x ∷ b ∷ rest) n in
    let Q : ℕ → Type 0 = λ m. CharacterAt (92 ∷ b ∷ rest) m in
    subst P (sym front) (subst Q (goes_inj h) (record { value = c ∷ []; some = omega arith; within = omega arith; is = escaped e }))

escape_told : (bs : List ℕ) (n : ℕ) (t : Bool) → byte_at bs 0 ≡ 92 → cond t (unit_step bs (unit_at bs)) (escaped_step (look_up (byte_at bs 1) escapes)) ≡ Goes n → CharacterAt bs n
escape_told bs n true front h = unit_step_told bs n (unit_at bs) refl h
escape_told bs n false front h = escaped_told bs n (look_up (byte_at bs 1) escapes) front refl h

plain_told : (b : ℕ) (bs : List ℕ) (n : ℕ) (t : Bool) → is_quote b ≡ false → eqb b 92 ≡ false → is_comment_byte b ≡ t → cond t (Goes 1) Fails ≡ Goes n → CharacterAt (b ∷ bs) n
plain_told b bs n false e1 e2 e3 h = absurd (cc)
plain_told b bs n true e1 e2 e3 h = subst (CharacterAt (b ∷ bs)) (goes_inj h) (record { value = b ∷ []; some = omega arith; within = omega arith; is = plain (plain_if b e1 e2 e3) })

step_told : (b : ℕ) (bs : List ℕ) (n : ℕ) (t u : Bool) → is_quote b ≡ t → eqb b 92 ≡ u →
    cond t (Ends 1) (cond u (escape_step (byte_at (b ∷ bs) 1) (b ∷ bs)) (cond (is_comment_byte b) (Goes 1) Fails)) ≡ Goes n → CharacterAt (b ∷ bs) n
step_told b bs n true u e1 e2 h = absurd (cc)
step_told b bs n false true e1 e2 h = escape_told (b ∷ bs) n (eqb (byte_at (b ∷ bs) 1) 117) (is_number b 92 e2) h
step_told b bs n false false e1 e2 h = plain_told b bs n (is_comment_byte b) e1 e2 refl h

-- where the step goes on, a character stands
pub character_told : (bs : List ℕ) (n : ℕ) → string_step bs ≡ Goes n → CharacterAt bs n
unfolding string_step
character_told [] n h = absurd (cc)
character_told (b ∷ bs) n h = step_told b bs n (is_quote b) (eqb b 92) refl refl h

pub ends_inj : {n m : ℕ} → Ends n ≡ Ends m → n ≡ m
ends_inj h = cc

not_ends : (bs : List ℕ) (n : ℕ) → escape_step (byte_at bs 1) bs ≡ Ends n → ⊥
not_ends bs n h = by_u (eqb (byte_at bs 1) 117) h
  where
    by_second : (o : Option ℕ) → second_step o ≡ Ends n → ⊥
    by_second None h = cc
    by_second (Some low) h = by_low (is_low_surrogate low) h
      where
        by_low : (t : Bool) → cond t (Goes 12) Fails ≡ Ends n → ⊥
        by_low true h = cc
        by_low false h = cc

    by_high : (t u : Bool) → cond t (second_step (unit_at (drop 6 bs))) (cond u Fails (Goes 6)) ≡ Ends n → ⊥
    by_high true u h = by_second (unit_at (drop 6 bs)) h
    by_high false true h = cc
    by_high false false h = cc

    by_unit : (o : Option ℕ) → unit_step bs o ≡ Ends n → ⊥
    by_unit None h = cc
    by_unit (Some unit) h = by_high (is_high_surrogate unit) (is_low_surrogate unit) h

    by_escape : (o : Option ℕ) → escaped_step o ≡ Ends n → ⊥
    by_escape None h = cc
    by_escape (Some c) h = cc

    by_u : (t : Bool) → cond t (unit_step bs (unit_at bs)) (escaped_step (look_up (byte_at bs 1) escapes)) ≡ Ends n → ⊥
    by_u true h = by_unit (unit_at bs) h
    by_u false h = by_escape (look_up (byte_at bs 1) escapes) h

-- where the step ends, a quotation mark stands
pub record QuoteAt (bs : List ℕ) (n : ℕ) : Type 0 where
  pub one : n ≡ 1
  pub within : 0 < length bs
  pub is : take 1 bs ≡ 34 ∷ []

quote_by : (b : ℕ) (bs : List ℕ) (n : ℕ) (t u v : Bool) → is_quote b ≡ t →
    cond t (Ends 1) (cond u (escape_step (byte_at (b ∷ bs) 1) (b ∷ bs)) (cond v (Goes 1) Fails)) ≡ Ends n → QuoteAt (b ∷ bs) n
quote_by b bs n true u v e h = record { one = sym (ends_inj h); within = omega arith; is = ap (λ x. x ∷ []) (is_number b 34 e) }
quote_by b bs n false true v e h = absurd (not_ends (b ∷ bs) n h)
quote_by b bs n false false true e h = absurd (cc)
quote_by b bs n false false false e h = absurd (cc)

pub quote_told : (bs : List ℕ) (n : ℕ) → string_step bs ≡ Ends n → QuoteAt bs n
unfolding string_step
quote_told [] n h = absurd (cc)
quote_told (b ∷ bs) n h = quote_by b bs n (is_quote b) (eqb b 92) (is_comment_byte b) refl h

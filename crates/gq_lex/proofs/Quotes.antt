-- The string or block string at the front of a text: the computed answer is the relation's, both ways.
use Rattle.std.proofs.Common.{◌≡◌, ℕ, zero, suc, ◌+◌, ◌-◌, ◌<◌, ◌≤◌, List, [], ◌∷◌, ◌++◌, length, take, drop, Bool, true, false, cond, Option, Some, None, Ok, Err, refl, sym, ap, subst, ◌∙◌, arith, one-add, zero-add, length-append, length-drop, append_assoc}
use Rattle.std.specs.Prelude.{nat_eq}
use Rattle.std.specs.Cmp.Lexicographic.{pointwise}
use Rattle.std.specs.List.{starts_with}
use Rattle.std.proofs.Math.Seq.{take-add}
use Rattle.std.proofs.lemmas.Bool.Decides.{Decides-eqb}
use Rattle.std.proofs.lemmas.List.{take-append-le, take-append-drop, length-take-le, drop-drop, drop_all}
use Rattle.std.proofs.lemmas.Slice.Eq.{starts_is}
use Rattle.gq_lex.specs.declared.token.Kind.{Kind}
use Rattle.gq_lex.specs.declared.token.Kind.TheVariants.{String, BlockString}
use Rattle.gq_lex.specs.declared.token.BadKind.{BadKind}
use Rattle.gq_lex.specs.declared.token.BadKind.TheVariants.{Quote}
use Rattle.gq_lex.specs.declared.quoted.Form.{Form}
use Rattle.gq_lex.specs.declared.quoted.Form.TheVariants.{Plain, Block}
use Rattle.gq_lex.specs.declared.quoted.Step.{Step}
use Rattle.gq_lex.specs.declared.quoted.Step.TheVariants.{Ends, Goes, Fails}
use Rattle.gq_lex.specs.Blocks.{is_source_byte, begins_quotes, begins_escape, IsBlockBody, closing, escape, source}
use Rattle.gq_lex.specs.Bytes.{Stops}
use Rattle.gq_lex.specs.Helping.Reading.{Found}
use Rattle.gq_lex.specs.Scanning.{byte_at, string_step, block_step, step_at, grown, scan, closed, quoted_at}
use Rattle.gq_lex.specs.Strings.{is_quote, AreCharacters, none, more}
use Rattle.gq_lex.specs.Tokens.{IsToken, empty_string, string, block_string}
use Rattle.gq_lex.proofs.Characters.{character_is, character_first, Front, character_told, quote_told, ends_inj, goes_inj}
use Rattle.gq_lex.proofs.Runs.{found_of, is_number, some_inj, ok_inj}

-- what a text begins with is seen in a part of it that is long enough
pub begins_part : (part after want : List ℕ) → length want ≤ length part → starts_with nat_eq (part ++ after) want ≡ starts_with nat_eq part want
begins_part part after want h = ap (pointwise nat_eq want) (take-append-le (length want) part after h)

begins_not : (bs want : List ℕ) → ((rest : List ℕ) → bs ≡ want ++ rest → ⊥) → starts_with nat_eq bs want ≡ false
begins_not bs want h = by_test (starts_with nat_eq bs want) refl
  where
    by_test : (t : Bool) → starts_with nat_eq bs want ≡ t → t ≡ false
    by_test true e = absurd (h (drop (length want) bs) ((starts_is Decides-eqb bs want true (sym e)).0 refl))
    by_test false e = refl

pub begins_told : (bs want : List ℕ) → starts_with nat_eq bs want ≡ true → bs ≡ want ++ drop (length want) bs
begins_told bs want e = (starts_is Decides-eqb bs want true (sym e)).0 refl

grown_zero : (o : Option ℕ) → o ≡ grown 0 o
grown_zero None = refl
grown_zero (Some n) = ap Some (sym (zero-add n))

grown_more : (n : ℕ) (o : Option ℕ) → grown 1 (grown n o) ≡ grown (suc n) o
grown_more n None = refl
grown_more n (Some m) = let e : 1 + (n + m) ≡ suc n + m = omega arith in ap Some e

-- passing over the first bytes
scan_skip : (form : Form) (xs rest : List ℕ) → scan form (xs ++ rest) (length xs) ≡ grown (length xs) (scan form rest 0)
unfolding scan
scan_skip form [] rest = grown_zero (scan form rest 0)
scan_skip form (x ∷ xs) rest = ap (grown 1) (scan_skip form xs rest) ∙ grown_more (length xs) (scan form rest 0)

-- what a scan gives by the step at the front
abbrev scan_by : Form → List ℕ → Step → Option ℕ
scan_by form bs s = elim s [ Ends n ↦ Some n | Goes n ↦ grown 1 (scan form bs (n - 1)) | Fails ↦ None ]

scan_front : (form : Form) (b : ℕ) (bs : List ℕ) (s : Step) → step_at form (b ∷ bs) ≡ s → scan form (b ∷ bs) 0 ≡ scan_by form bs s
unfolding scan
scan_front form b bs s e = ap (scan_by form bs) e

-- over a part whose length is the step's
scan_over : (form : Form) (part rest : List ℕ) → 0 < length part → step_at form (part ++ rest) ≡ Goes (length part) → scan form (part ++ rest) 0 ≡ grown (length part) (scan form rest 0)
scan_over form [] rest some e = absurd (omega (arith, some))
scan_over form (x ∷ xs) rest some e =
    let one : length (x ∷ xs) - 1 ≡ length xs = omega arith in
    scan_front form x (xs ++ rest) (Goes (length (x ∷ xs))) e
    ∙ ap (λ n. grown 1 (scan form (xs ++ rest) n)) one
    ∙ ap (grown 1) (scan_skip form xs rest)
    ∙ grown_more (length xs) (scan form rest 0)

pub front_some : {part : List ℕ} → Front part → 0 < length part
front_some f = omega (arith, ap length f.is)

-- characters and the quotation mark behind them
characters_are : {body value : List ℕ} (after : List ℕ) → AreCharacters body value → scan Plain (body ++ 34 ∷ after) 0 ≡ Some (length body + 1)
unfolding scan string_step
characters_are after none = refl
characters_are {body} after (more part behind one others is character rest value_is) =
    let long : length part + (length behind + 1) ≡ length body + 1 = omega (arith, ap length is, length-append part behind) in
    ap (λ l. scan Plain (l ++ 34 ∷ after) 0) is
    ∙ ap (λ l. scan Plain l 0) (append_assoc part behind (34 ∷ after))
    ∙ scan_over Plain part (behind ++ 34 ∷ after) (front_some (character_first character)) (character_is (behind ++ 34 ∷ after) character)
    ∙ ap (grown (length part)) (characters_are after rest)
    ∙ ap Some long

no_quotes : (c : ℕ) (rest : List ℕ) → is_quote c ≡ false → begins_quotes (34 ∷ c ∷ rest) ≡ false
no_quotes c rest h = begins_not (34 ∷ c ∷ rest) (34 ∷ 34 ∷ 34 ∷ []) (λ others e. let same : c ≡ 34 = cc in let f : true ≡ false = ap is_quote (sym same) ∙ h in cc)

quoted_plain : (bs : List ℕ) → begins_quotes bs ≡ false → quoted_at bs ≡ closed String 1 (scan Plain (drop 1 bs) 0)
unfolding quoted_at
quoted_plain bs e = ap (λ t. cond t (closed BlockString 3 (scan Block (drop 3 bs) 0)) (closed String 1 (scan Plain (drop 1 bs) 0))) e

pub empty_is : (after : List ℕ) → Stops is_quote after → quoted_at (34 ∷ 34 ∷ after) ≡ Ok (Some String, 2)
empty_is after stops =
    quoted_plain (34 ∷ 34 ∷ after) (begins_not (34 ∷ 34 ∷ after) (34 ∷ 34 ∷ 34 ∷ []) (λ others e. let same : after ≡ 34 ∷ others = cc in let f : true ≡ false = subst (Stops is_quote) same stops in cc))
    ∙ ap (closed String 1) (characters_are after none)

-- the first byte of characters, if there are some
characters_first : {body value : List ℕ} → 0 < length body → AreCharacters body value → Front body
characters_first some none = absurd (omega (arith, some))
characters_first some (more part behind one others is character rest value_is) =
    let f = character_first character in
    record { first = f.first; others = f.others ++ behind; is = is ∙ ap (λ l. l ++ behind) f.is; no_quote = f.no_quote }

pub string_is : {part : List ℕ} (after body value : List ℕ) → part ≡ 34 ∷ (body ++ 34 ∷ []) → 0 < length body → AreCharacters body value → quoted_at (part ++ after) ≡ Ok (Some String, length part)
string_is {part} after body value is some characters =
    let f = characters_first some characters in
    let same : part ++ after ≡ 34 ∷ (body ++ 34 ∷ after) = ap (λ l. l ++ after) is ∙ ap (λ l. 34 ∷ l) (append_assoc body (34 ∷ []) after) in
    let front : body ++ 34 ∷ after ≡ f.first ∷ (f.others ++ 34 ∷ after) = ap (λ l. l ++ 34 ∷ after) f.is in
    let long : 1 + (length body + 1) ≡ length part = omega (arith, ap length is, length-append body (34 ∷ [])) in
    ap quoted_at same
    ∙ quoted_plain (34 ∷ (body ++ 34 ∷ after)) (ap (λ l. begins_quotes (34 ∷ l)) front ∙ no_quotes f.first (f.others ++ 34 ∷ after) f.no_quote)
    ∙ ap (closed String 1) (characters_are after characters)
    ∙ ap (λ n. Ok (Some String, n)) long

pub block_long : {text raw : List ℕ} → IsBlockBody text raw → 3 ≤ length text
block_long closing = omega arith
block_long (escape rest) = omega (arith, block_long rest)
block_long (source is quotes escapes rest) = omega (arith, block_long rest)

pub block_source : (bs : List ℕ) → begins_quotes bs ≡ false → begins_escape bs ≡ false → is_source_byte (byte_at bs 0) ≡ true → block_step bs ≡ Goes 1
unfolding block_step
block_source bs quotes escapes is =
    ap (λ t. cond t (Ends 3) (cond (begins_escape bs) (Goes 4) (cond (is_source_byte (byte_at bs 0)) (Goes 1) Fails))) quotes
    ∙ ap (λ t. cond t (Goes 4) (cond (is_source_byte (byte_at bs 0)) (Goes 1) Fails)) escapes
    ∙ ap (λ t. cond t (Goes 1) Fails) is

block_goes : {text raw : List ℕ} (after : List ℕ) → IsBlockBody text raw → scan Block (text ++ after) 0 ≡ Some (length text)
unfolding scan block_step
block_goes after closing = refl
block_goes after (escape {text} rest) =
    let long : 4 + length text ≡ suc (suc (suc (suc (length text)))) = omega arith in
    scan_over Block (92 ∷ 34 ∷ 34 ∷ 34 ∷ []) (text ++ after) (omega arith) refl ∙ ap (grown 4) (block_goes after rest) ∙ ap Some long
block_goes after (source {b} {text} is quotes escapes rest) =
    let long = block_long rest in
    let bs : List ℕ = b ∷ (text ++ after) in
    let one : step_at Block bs ≡ Goes 1 =
    block_source bs (begins_part (b ∷ text) after (34 ∷ 34 ∷ 34 ∷ []) (omega (arith, long)) ∙ quotes) (begins_part (b ∷ text) after (92 ∷ 34 ∷ 34 ∷ 34 ∷ []) (omega (arith, long)) ∙ escapes) is in
    scan_over Block (b ∷ []) (text ++ after) (omega arith) one ∙ ap (grown 1) (block_goes after rest) ∙ ap Some (one-add (length text))

pub block_is : {body raw : List ℕ} (after : List ℕ) → IsBlockBody body raw → quoted_at (34 ∷ 34 ∷ 34 ∷ (body ++ after)) ≡ Ok (Some BlockString, suc (suc (suc (length body))))
unfolding quoted_at
block_is {body} after h =
    let long : 3 + length body ≡ suc (suc (suc (length body))) = omega arith in
    ap (closed BlockString 3) (block_goes after h) ∙ ap (λ n. Ok (Some BlockString, n)) long

-- characters and the quotation mark behind them
record StringEnd (text : List ℕ) : Type 0 where
  body : List ℕ
  value : List ℕ
  is : text ≡ body ++ 34 ∷ []
  characters : AreCharacters body value

record BlockEnd (text : List ℕ) : Type 0 where
  raw : List ℕ
  body : IsBlockBody text raw

-- what a part up to its end is
abbrev Holds : Form → List ℕ → Type 0
Holds Plain text = StringEnd text
Holds Block text = BlockEnd text

-- a step at the end
record EndAt (form : Form) (bs : List ℕ) (n : ℕ) : Type 0 where
  within : n ≤ length bs
  holds : Holds form (take n bs)

-- a step that goes on
record GoesAt (form : Form) (bs : List ℕ) (n : ℕ) : Type 0 where
  some : 0 < n
  within : n ≤ length bs
  holds : (k : ℕ) → Holds form (take k (drop n bs)) → Holds form (take (n + k) bs)

end_string : (bs : List ℕ) (n : ℕ) → string_step bs ≡ Ends n → EndAt Plain bs n
end_string bs n h =
    let q = quote_told bs n h in
    let front : take n bs ≡ 34 ∷ [] = ap (λ k. take k bs) q.one ∙ q.is in
    record { within = omega (arith, q.one, q.within); holds = record { body = []; value = []; is = front; characters = none } }

goes_string : (bs : List ℕ) (n : ℕ) → string_step bs ≡ Goes n → GoesAt Plain bs n
goes_string bs n h =
    let c = character_told bs n h in
    record {
      some = c.some;
      within = c.within;
      holds = λ k (held : StringEnd (take k (drop n bs))). record {
        body = take n bs ++ held.body;
        value = c.value ++ held.value;
        is = take-add n k bs ∙ ap (λ l. take n bs ++ l) held.is ∙ sym (append_assoc (take n bs) held.body (34 ∷ []));
        characters = more (take n bs) held.body c.value held.value refl c.is held.characters refl;
      };
    }

-- what a step of a block string tells
end_block_by : (bs : List ℕ) (n : ℕ) (t u v : Bool) → begins_quotes bs ≡ t → cond t (Ends 3) (cond u (Goes 4) (cond v (Goes 1) Fails)) ≡ Ends n → EndAt Block bs n
end_block_by bs n true u v e h =
    let is = begins_told bs (34 ∷ 34 ∷ 34 ∷ []) e in
    let front : take 3 bs ≡ 34 ∷ 34 ∷ 34 ∷ [] = ap (take 3) is in
    let three : EndAt Block bs 3 = record { within = omega (arith, ap length is); holds = record { raw = []; body = subst (λ l. IsBlockBody l []) (sym front) closing } } in
    subst (EndAt Block bs) (ends_inj h) three
end_block_by bs n false true v e h = absurd (cc)
end_block_by bs n false false true e h = absurd (cc)
end_block_by bs n false false false e h = absurd (cc)

end_block : (bs : List ℕ) (n : ℕ) → block_step bs ≡ Ends n → EndAt Block bs n
unfolding block_step
end_block bs n h = end_block_by bs n (begins_quotes bs) (begins_escape bs) (is_source_byte (byte_at bs 0)) refl h

source_goes : (bs : List ℕ) → begins_quotes bs ≡ false → begins_escape bs ≡ false → is_source_byte (byte_at bs 0) ≡ true → GoesAt Block bs 1
source_goes [] quotes escapes is = absurd (cc)
source_goes (b ∷ bs) quotes escapes is = record {
  some = omega arith;
  within = omega arith;
  holds = λ k (held : BlockEnd (take k bs)).
      let long = block_long held.body in
      let whole : (b ∷ take k bs) ++ drop k bs ≡ b ∷ bs = ap (λ l. b ∷ l) (take-append-drop k bs) in
      let front : take (1 + k) (b ∷ bs) ≡ b ∷ take k bs = ap (λ n. take n (b ∷ bs)) (one-add k) in
      let no_quotes : begins_quotes (b ∷ take k bs) ≡ false = sym (begins_part (b ∷ take k bs) (drop k bs) (34 ∷ 34 ∷ 34 ∷ []) (omega (arith, long))) ∙ ap begins_quotes whole ∙ quotes in
      let no_escape : begins_escape (b ∷ take k bs) ≡ false = sym (begins_part (b ∷ take k bs) (drop k bs) (92 ∷ 34 ∷ 34 ∷ 34 ∷ []) (omega (arith, long))) ∙ ap begins_escape whole ∙ escapes in
      let P : List ℕ → Type 0 = λ l. IsBlockBody l (b ∷ held.raw) in
      record { raw = b ∷ held.raw; body = subst P (sym front) (source is no_quotes no_escape held.body) };
}

escape_goes : (bs : List ℕ) → begins_escape bs ≡ true → GoesAt Block bs 4
escape_goes bs e =
    let is = begins_told bs (92 ∷ 34 ∷ 34 ∷ 34 ∷ []) e in
    let front : take 4 bs ≡ 92 ∷ 34 ∷ 34 ∷ 34 ∷ [] = ap (take 4) is in
    record {
      some = omega arith;
      within = omega (arith, ap length is);
      holds = λ k (held : BlockEnd (take k (drop 4 bs))).
          let whole : take (4 + k) bs ≡ 92 ∷ 34 ∷ 34 ∷ 34 ∷ take k (drop 4 bs) = take-add 4 k bs ∙ ap (λ l. l ++ take k (drop 4 bs)) front in
          let P : List ℕ → Type 0 = λ l. IsBlockBody l (34 ∷ 34 ∷ 34 ∷ held.raw) in
          record { raw = 34 ∷ 34 ∷ 34 ∷ held.raw; body = subst P (sym whole) (escape held.body) };
    }

goes_block_by : (bs : List ℕ) (n : ℕ) (t u v : Bool) → begins_quotes bs ≡ t → begins_escape bs ≡ u → is_source_byte (byte_at bs 0) ≡ v → cond t (Ends 3) (cond u (Goes 4) (cond v (Goes 1) Fails)) ≡ Goes n → GoesAt Block bs n
goes_block_by bs n true u v e1 e2 e3 h = absurd (cc)
goes_block_by bs n false true v e1 e2 e3 h = subst (GoesAt Block bs) (goes_inj h) (escape_goes bs e2)
goes_block_by bs n false false true e1 e2 e3 h = subst (GoesAt Block bs) (goes_inj h) (source_goes bs e1 e2 e3)
goes_block_by bs n false false false e1 e2 e3 h = absurd (cc)

goes_block : (bs : List ℕ) (n : ℕ) → block_step bs ≡ Goes n → GoesAt Block bs n
unfolding block_step
goes_block bs n h = goes_block_by bs n (begins_quotes bs) (begins_escape bs) (is_source_byte (byte_at bs 0)) refl refl refl h

end_at : (form : Form) (bs : List ℕ) (n : ℕ) → step_at form bs ≡ Ends n → EndAt form bs n
end_at Plain bs n h = end_string bs n h
end_at Block bs n h = end_block bs n h

goes_at : (form : Form) (bs : List ℕ) (n : ℕ) → step_at form bs ≡ Goes n → GoesAt form bs n
goes_at Plain bs n h = goes_string bs n h
goes_at Block bs n h = goes_block bs n h

-- so many bytes belong to a step
pub step_ends_within : (form : Form) (bs : List ℕ) (n : ℕ) → step_at form bs ≡ Ends n → n ≤ length bs
step_ends_within form bs n h = (end_at form bs n h).within

pub step_goes_within : (form : Form) (bs : List ℕ) (n : ℕ) → step_at form bs ≡ Goes n → (0 < n) × (n ≤ length bs)
step_goes_within form bs n h = let g = goes_at form bs n h in (g.some, g.within)

-- what a scan tells of what is behind the bytes that it passes over
record Scanned (form : Form) (bs : List ℕ) (k n : ℕ) : Type 0 where
  size : ℕ
  is : n ≡ k + size
  within : n ≤ length bs
  holds : Holds form (take size (drop k bs))

record Less (o : Option ℕ) (n : ℕ) : Type 0 where
  less : ℕ
  was : o ≡ Some less
  is : n ≡ suc less

grown_told : (o : Option ℕ) (n : ℕ) → grown 1 o ≡ Some n → Less o n
grown_told None n h = absurd (cc)
grown_told (Some m) n h = let e : 1 + m ≡ n = cc in record { less = m; was = refl; is = sym e ∙ one-add m }

scanned_by : (form : Form) (b : ℕ) (bs : List ℕ) (n : ℕ) (s : Step) → ((k m : ℕ) → scan form bs k ≡ Some m → Scanned form bs k m) → step_at form (b ∷ bs) ≡ s → scan_by form bs s ≡ Some n → Scanned form (b ∷ bs) 0 n
scanned_by form b bs n (Ends m) again e h =
    let at : EndAt form (b ∷ bs) n = subst (EndAt form (b ∷ bs)) (some_inj h) (end_at form (b ∷ bs) m e) in
    record { size = n; is = sym (zero-add n); within = at.within; holds = at.holds }
scanned_by form b bs n (Goes zero) again e h = absurd (omega (arith, (goes_at form (b ∷ bs) 0 e).some))
scanned_by form b bs n (Goes (suc m)) again e h =
    let goes = goes_at form (b ∷ bs) (suc m) e in
    let one : suc m - 1 ≡ m = omega arith in
    let l = grown_told (scan form bs (suc m - 1)) n h in
    let behind = again m l.less (ap (scan form bs) (sym one) ∙ l.was) in
    record {
      size = suc m + behind.size;
      is = omega (arith, l.is, behind.is);
      within = omega (arith, l.is, behind.within);
      holds = goes.holds behind.size behind.holds;
    }
scanned_by form b bs n Fails again e h = absurd (cc)

scanned : (form : Form) (bs : List ℕ) (k n : ℕ) → scan form bs k ≡ Some n → Scanned form bs k n
unfolding scan
scanned form [] k n h = absurd (cc)
scanned form (b ∷ bs) zero n h = scanned_by form b bs n (step_at form (b ∷ bs)) (scanned form bs) refl h
scanned form (b ∷ bs) (suc k) n h =
    let l = grown_told (scan form bs k) n h in
    let behind = scanned form bs k l.less l.was in
    record { size = behind.size; is = omega (arith, l.is, behind.is); within = omega (arith, l.is, behind.within); holds = behind.holds }

grown_twice : (n m : ℕ) (o : Option ℕ) → grown n (grown m o) ≡ grown (n + m) o
grown_twice n m None = refl
grown_twice n m (Some k) = let e : n + (m + k) ≡ n + m + k = omega arith in ap Some e

scan_first : (form : Form) (bs : List ℕ) (s : Step) → 0 < length bs → step_at form bs ≡ s → scan form bs 0 ≡ scan_by form (drop 1 bs) s
scan_first form [] s some e = absurd (omega (arith, some))
scan_first form (b ∷ bs) s some e = scan_front form b bs s e

-- a turn of a scan: what is left gives the whole
abbrev pub Left : Form → List ℕ → ℕ → Type 0
Left form bytes at = scan form bytes 0 ≡ grown at (scan form (drop at bytes) 0)

behind_some : (bytes : List ℕ) (at : ℕ) → at < length bytes → 0 < length (drop at bytes)
behind_some bytes at h = omega (arith, h, length-drop at bytes)

pub left_first : (form : Form) (bytes : List ℕ) → Left form bytes 0
left_first form bytes = grown_zero (scan form bytes 0)

pub left_ends : (form : Form) (bytes : List ℕ) (at n : ℕ) → at < length bytes → Left form bytes at → step_at form (drop at bytes) ≡ Ends n → (scan form bytes 0 ≡ Some (at + n)) × (at + n ≤ length bytes)
left_ends form bytes at n within left e = (left ∙ ap (grown at) (scan_first form (drop at bytes) (Ends n) (behind_some bytes at within) e), omega (arith, within, step_ends_within form (drop at bytes) n e, length-drop at bytes))

pub left_fails : (form : Form) (bytes : List ℕ) (at : ℕ) → at < length bytes → Left form bytes at → step_at form (drop at bytes) ≡ Fails → scan form bytes 0 ≡ None
left_fails form bytes at within left e = left ∙ ap (grown at) (scan_first form (drop at bytes) Fails (behind_some bytes at within) e)

pub left_all : (form : Form) (bytes : List ℕ) (at : ℕ) → length bytes ≤ at → Left form bytes at → scan form bytes 0 ≡ None
unfolding scan
left_all form bytes at past left = left ∙ ap (λ l. grown at (scan form l 0)) (drop_all at bytes past)

-- what a turn keeps
pub record Onward (form : Form) (bytes : List ℕ) (at n : ℕ) : Type 0 where
  pub some : 0 < n
  pub within : at + n ≤ length bytes
  pub left : Left form bytes (at + n)

pub left_goes : (form : Form) (bytes : List ℕ) (at n : ℕ) → at < length bytes → Left form bytes at → step_at form (drop at bytes) ≡ Goes n → Onward form bytes at n
left_goes form bytes at n within left e =
    let rest : List ℕ = drop at bytes in
    let step = step_goes_within form rest n e in
    let long : length (take n rest) ≡ n = length-take-le n rest step.1 in
    let whole : take n rest ++ drop n rest ≡ rest = take-append-drop n rest in
    let over : scan form rest 0 ≡ grown n (scan form (drop n rest) 0) =
    ap (λ l. scan form l 0) (sym whole)
    ∙ scan_over form (take n rest) (drop n rest) (omega (arith, long, step.0)) (ap (step_at form) whole ∙ e ∙ ap Goes (sym long))
    ∙ ap (λ k. grown k (scan form (drop n rest) 0)) long in
    record {
      some = step.0;
      within = omega (arith, within, step.1, length-drop at bytes);
      left = left ∙ ap (grown at) over ∙ grown_twice at n (scan form (drop n rest) 0) ∙ ap (λ l. grown (at + n) (scan form l 0)) (drop-drop n at bytes);
    }

-- what a found string or block string tells
record Closed (kind : Kind) (before : ℕ) (o : Option ℕ) (x : Option Kind × ℕ) : Type 0 where
  size : ℕ
  was : o ≡ Some size
  is : (Some kind, before + size) ≡ x

closed_told : (kind : Kind) (before : ℕ) (o : Option ℕ) (x : Option Kind × ℕ) → closed kind before o ≡ Ok x → Closed kind before o x
closed_told kind before None x h = absurd (cc)
closed_told kind before (Some n) x h = record { size = n; was = refl; is = ok_inj h }

split : (n : ℕ) (bs : List ℕ) → bs ≡ take n bs ++ drop n bs
split n bs = sym (take-append-drop n bs)

block_told : (bs : List ℕ) (x : Option Kind × ℕ) → begins_quotes bs ≡ true → closed BlockString 3 (scan Block (drop 3 bs) 0) ≡ Ok x → Found bs x
block_told bs x e h =
    let c = closed_told BlockString 3 (scan Block (drop 3 bs) 0) x h in
    let s = scanned Block (drop 3 bs) 0 c.size c.was in
    let rest : List ℕ = drop 3 bs in
    let body : List ℕ = take s.size rest in
    let same : c.size ≡ s.size = omega (arith, s.is) in
    let whole : bs ≡ (34 ∷ 34 ∷ 34 ∷ body) ++ drop s.size rest = begins_told bs (34 ∷ 34 ∷ 34 ∷ []) e ∙ ap (λ l. 34 ∷ 34 ∷ 34 ∷ l) (split s.size rest) in
    let long : length (34 ∷ 34 ∷ 34 ∷ body) ≡ 3 + c.size = omega (arith, same, length-take-le s.size rest (omega (arith, s.within, same))) in
    let token : IsToken BlockString (34 ∷ 34 ∷ 34 ∷ body) (drop s.size rest) = block_string s.holds.body in
    subst (Found bs) c.is (found_of bs (34 ∷ 34 ∷ 34 ∷ body) (drop s.size rest) (Some BlockString) (3 + c.size) whole long (omega arith) token)

no_third : (after : List ℕ) → begins_quotes (34 ∷ 34 ∷ after) ≡ false → Stops is_quote after
no_third [] e = tt
no_third (c ∷ after) e = by_quote (is_quote c) refl
  where
    by_quote : (t : Bool) → is_quote c ≡ t → is_quote c ≡ false
    by_quote false is = is
    by_quote true is =
        let same : c ≡ 34 = is_number c 34 is in
        let f : true ≡ false = ap (λ n. begins_quotes (34 ∷ 34 ∷ n ∷ after)) (sym same) ∙ e in
        absurd (cc)

string_of : (part after body value : List ℕ) → part ≡ body ++ 34 ∷ [] → AreCharacters body value → begins_quotes (34 ∷ (part ++ after)) ≡ false → IsToken String (34 ∷ part) after
string_of part after [] value is characters e =
    let P : List ℕ → Type 0 = λ l. IsToken String (34 ∷ l) after in
    subst P (sym is) (empty_string (no_third after (ap (λ l. begins_quotes (34 ∷ (l ++ after))) (sym is) ∙ e)))
string_of part after (b ∷ body) value is characters e = string (b ∷ body) value (ap (λ l. 34 ∷ l) is) (omega arith) characters

plain_told : (bs : List ℕ) (x : Option Kind × ℕ) → begins_quotes (34 ∷ bs) ≡ false → closed String 1 (scan Plain bs 0) ≡ Ok x → Found (34 ∷ bs) x
plain_told bs x e h =
    let c = closed_told String 1 (scan Plain bs 0) x h in
    let s = scanned Plain bs 0 c.size c.was in
    let part : List ℕ = take s.size bs in
    let same : c.size ≡ s.size = omega (arith, s.is) in
    let whole : 34 ∷ bs ≡ (34 ∷ part) ++ drop s.size bs = ap (λ l. 34 ∷ l) (split s.size bs) in
    let long : length (34 ∷ part) ≡ 1 + c.size = omega (arith, same, length-take-le s.size bs (omega (arith, s.within, same))) in
    let token : IsToken String (34 ∷ part) (drop s.size bs) = string_of part (drop s.size bs) s.holds.body s.holds.value s.holds.is s.holds.characters (ap begins_quotes (sym whole) ∙ e) in
    subst (Found (34 ∷ bs)) c.is (found_of (34 ∷ bs) (34 ∷ part) (drop s.size bs) (Some String) (1 + c.size) whole long (omega arith) token)

quoted_by : (bs : List ℕ) (x : Option Kind × ℕ) (t : Bool) → begins_quotes (34 ∷ bs) ≡ t → cond t (closed BlockString 3 (scan Block (drop 3 (34 ∷ bs)) 0)) (closed String 1 (scan Plain bs 0)) ≡ Ok x → Found (34 ∷ bs) x
quoted_by bs x true e h = block_told (34 ∷ bs) x e h
quoted_by bs x false e h = plain_told bs x e h

pub quoted_told : (bs : List ℕ) (x : Option Kind × ℕ) → quoted_at (34 ∷ bs) ≡ Ok x → Found (34 ∷ bs) x
unfolding quoted_at
quoted_told bs x h = quoted_by bs x (begins_quotes (34 ∷ bs)) refl h

-- which fault it is
closed_fault : (kind : Kind) (before : ℕ) (o : Option ℕ) (fault : BadKind) → closed kind before o ≡ Err fault → fault ≡ Quote
closed_fault kind before None fault h = cc
closed_fault kind before (Some n) fault h = absurd (cc)

quoted_fault_by : (bs : List ℕ) (fault : BadKind) (t : Bool) → cond t (closed BlockString 3 (scan Block (drop 3 bs) 0)) (closed String 1 (scan Plain (drop 1 bs) 0)) ≡ Err fault → fault ≡ Quote
quoted_fault_by bs fault true h = closed_fault BlockString 3 (scan Block (drop 3 bs) 0) fault h
quoted_fault_by bs fault false h = closed_fault String 1 (scan Plain (drop 1 bs) 0) fault h

pub quoted_fault : (bs : List ℕ) (fault : BadKind) → quoted_at bs ≡ Err fault → fault ≡ Quote
unfolding quoted_at
quoted_fault bs fault h = quoted_fault_by bs fault (begins_quotes bs) h

-- Where a text may be cut so that the position of the place leads back to it.
use Rattle.std.proofs.Common.{◌≡◌, ℕ, zero, suc, ◌+◌, ◌-◌, ◌<◌, ◌≤◌, List, [], ◌∷◌, ◌++◌, length, get_or, take, drop, refl, sym, ap, subst, ◌∙◌, arith, add-zero, length-append, IsUtf8}
use Rattle.std.specs.Str.{chars, IsCharBoundary}
use Rattle.std.proofs.lemmas.Bool.Decides.{nat_tests}
use Rattle.std.proofs.lemmas.List.{get_or-append-add, get_or-drop, get_or-take, length-take, take-append-drop}
use Rattle.std.proofs.lemmas.Str.{chars-append, encodes-chars, length-encode, len_utf8_bounds, IsUtf8-take, IsUtf8-drop}
use Rattle.std.proofs.Math.Utf8.{encode, encodes}
use Rattle.gq_text.specs.Cut.{IsUnsplit, PositionsLeadBack}
use Rattle.gq_text.specs.Place.{lines, byte_count, offset_in, position_in}
use Rattle.gq_text.proofs.Further.{byte_count-chars}
use Rattle.gq_text.proofs.Steps.{first_feed}
use Rattle.gq_rename.specs.LeadBack.{LeadsBack}

-- a place of a text that cuts no character and no CRLF
pub record IsWhole (text : List ℕ) (place : ℕ) : Type 0 where
  pub boundary : IsCharBoundary text place
  pub unsplit : get_or text place 0 ≡ 10 → get_or text (place - 1) 0 ≡ 13 → ⊥

abbrev last_of : List ℕ → ℕ
last_of bs = get_or bs (length bs - 1) 0

return_last : last_of (encodes (13 ∷ [])) ≡ 13
unfolding encode
return_last = refl

last_behind : (c d : ℕ) (cs : List ℕ) → last_of (encodes (c ∷ d ∷ cs)) ≡ last_of (encodes (d ∷ cs))
last_behind c d cs =
    let some : 0 < length (encodes (d ∷ cs)) = omega (arith, length-append (encode d) (encodes cs), length-encode d, len_utf8_bounds d) in
    let place : length (encodes (c ∷ d ∷ cs)) - 1 ≡ length (encode c) + (length (encodes (d ∷ cs)) - 1) = omega (arith, some, length-append (encode c) (encodes (d ∷ cs))) in
    ap (λ n. get_or (encode c ++ encodes (d ∷ cs)) n 0) place ∙ get_or-append-add (encode c) (encodes (d ∷ cs)) (length (encodes (d ∷ cs)) - 1) 0

-- characters are unsplit where their bytes are
unsplit : (cs ys : List ℕ) → (get_or ys 0 0 ≡ 10 → last_of (encodes cs) ≡ 13 → ⊥) → IsUnsplit cs ys
unsplit [] ys h = tt
unsplit (c ∷ []) ys h = λ return feed. h feed (ap (λ b. last_of (encodes (b ∷ []))) return ∙ return_last)
unsplit (c ∷ d ∷ cs) ys h = unsplit (d ∷ cs) ys (λ feed return. h feed (last_behind c d cs ∙ return))

-- the last byte before a place
last_before : (text : List ℕ) (place : ℕ) → place ≤ length text → last_of (take place text) ≡ 13 → get_or text (place - 1) 0 ≡ 13
last_before text place within return =
    let size : length (take place text) ≡ place = omega (arith, length-take place text, within) in
    let there : get_or (take place text) (place - 1) 0 ≡ 13 = ap (λ n. get_or (take place text) (n - 1) 0) (sym size) ∙ return in
    by place refl there
  where
    by : (n : ℕ) → place ≡ n → get_or (take n text) (n - 1) 0 ≡ 13 → get_or text (place - 1) 0 ≡ 13
    by zero e h = absurd (let no : 0 ≡ 13 = h in omega (arith, no))
    by (suc n) e h = ap (λ k. get_or text (k - 1) 0) e ∙ sym (get_or-take (suc n) text (suc n - 1) 0 (omega arith)) ∙ h

feed_behind : (text : List ℕ) (place : ℕ) → IsUtf8 (drop place text) → get_or (chars (drop place text)) 0 0 ≡ 10 → get_or text place 0 ≡ 10
feed_behind text place utf8 feed =
    let same = first_feed (drop place text) utf8 in
    let here : get_or (drop place text) 0 0 ≡ 10 = grind (arith, nat_tests, same, feed) in
    ap (λ n. get_or text n 0) (sym (add-zero place)) ∙ sym (get_or-drop place text 0 0) ∙ here

pub leads_back : PositionsLeadBack → (text : List ℕ) (place : ℕ) → IsUtf8 text → IsWhole text place → LeadsBack text place
leads_back law text place utf8 w encoding =
    let front : IsUtf8 (take place text) = IsUtf8-take text place utf8 w.boundary in
    let back : IsUtf8 (drop place text) = IsUtf8-drop text place utf8 w.boundary in
    let whole : chars (take place text) ++ chars (drop place text) ≡ chars text = sym (chars-append (take place text) (drop place text) front) ∙ ap chars (take-append-drop place text) in
    let size : byte_count (chars (take place text)) ≡ place = byte_count-chars (take place text) front ∙ omega (arith, length-take place text, w.boundary.0) in
    let apart : IsUnsplit (chars (take place text)) (chars (drop place text)) =
    unsplit (chars (take place text)) (chars (drop place text))
    (λ feed return. w.unsplit (feed_behind text place back feed) (last_before text place w.boundary.0 (ap last_of (sym (encodes-chars (take place text) front)) ∙ return))) in
    let P : List ℕ → ℕ → Type 0 = λ cs n. (let p = position_in encoding (lines cs) n in offset_in encoding (lines cs) p.line p.character ≡ n) in
    subst (λ cs. P cs place) whole (subst (P (chars (take place text) ++ chars (drop place text))) size (law encoding (chars (take place text)) (chars (drop place text)) apart))

-- A text has at most one reading, and a reading grows piece by piece.
use Rattle.std.proofs.Common.{IsUtf8, ◌≡◌, ℕ, ◌+◌, ◌-◌, ◌^◌, ◌<◌, ◌≤◌, List, [], ◌∷◌, ◌++◌, length, take, drop, Option, Some, None, Result, Ok, refl, sym, ap, subst, ◌∙◌, arith, length-append}
use Rattle.std.proofs.lemmas.List.{take_at, drop_at, take-append-drop, drop-drop, length-take-le, length-drop}
use Rattle.std.specs.Str.{IsCharBoundary}
use Rattle.gq_lex.specs.declared.token.Kind.{Kind}
use Rattle.gq_lex.specs.declared.token.BadKind.{BadKind}
use Rattle.gq_lex.specs.Helping.Reading.{piece_at, Found, IsPiece}
use Rattle.gq_lex.specs.Tokens.{IsBadAt, IsLimitAt, IsIgnored, IsToken, Lexeme, lexeme_at, ReadsTo, here, ignored, token, Reads, IsStuck}
use Rattle.gq_lex.proofs.Edges.{token_edges}
use Rattle.gq_lex.proofs.Pieces.{ignored_is, token_is}
use Rattle.gq_lex.proofs.Standing.{cut_of}
use Rattle.gq_lex.proofs.Runs.{ok_inj}

pub pair_inj : {A B C : Type 0} {a c : A} {b d : B} → ◌≡◌ {A = Result (A × B) C} (Ok (a, b)) (Ok (c, d)) → (a ≡ c) × (b ≡ d)
pair_inj {A} {B} {C} {a} {c} {b} {d} h =
    let e : ◌≡◌ {A = A × B} (a, b) (c, d) = ok_inj h in
    (ap (λ (p : A × B). p.0) e, ap (λ (p : A × B). p.1) e)

pub same_part : (text a x b y : List ℕ) → text ≡ a ++ x → text ≡ b ++ y → length a ≡ length b → a ≡ b
same_part text a x b y p q e = sym (take_at a x (length b) e) ∙ ap (take (length b)) (sym p ∙ q) ∙ take_at b y (length b) refl

pub same_after : (text a x b y : List ℕ) → text ≡ a ++ x → text ≡ b ++ y → length a ≡ length b → x ≡ y
same_after text a x b y p q e = sym (drop_at a x (length b) e) ∙ ap (drop (length b)) (sym p ∙ q) ∙ drop_at b y (length b) refl

no_ignored_empty : (part after : List ℕ) → [] ≡ part ++ after → IsIgnored part after → ⊥
unfolding piece_at
no_ignored_empty part after is h = let e = ap piece_at is ∙ ignored_is h in cc

no_token_empty : (kind : Kind) (part after : List ℕ) → [] ≡ part ++ after → IsToken kind part after → ⊥
unfolding piece_at
no_token_empty kind part after is h = let e = ap piece_at is ∙ token_is h in cc

-- the rest of a reading behind an ignored part
pub behind_ignored : {at : ℕ} {text rest : List ℕ} {all : List Lexeme} (part after : List ℕ) → text ≡ part ++ after → IsIgnored part after → rest ≡ [] → ReadsTo at text all rest → ReadsTo (at + length part) after all rest
behind_ignored part after is h none here = absurd (no_ignored_empty part after (sym none ∙ is) h)
behind_ignored {at} {rest = rest} {all = all} part after is h none (ignored part2 after2 is2 h2 more) =
    let e = pair_inj (sym (ignored_is h) ∙ ap piece_at (sym is ∙ is2) ∙ ignored_is h2) in
    let P : ℕ → Type 0 = λ n. ReadsTo (at + n) after all rest in
    let Q : List ℕ → Type 0 = λ l. ReadsTo (at + length part2) l all rest in
    subst P (sym e.1) (subst Q (sym (same_after _ part after part2 after2 is is2 e.1)) more)
behind_ignored part after is h none (token kind part2 after2 is2 h2 more) =
    absurd (let e = pair_inj (sym (ignored_is h) ∙ ap piece_at (sym is ∙ is2) ∙ token_is h2) in cc)

-- the rest of a reading behind a token
pub behind_token : {at : ℕ} {text rest : List ℕ} {all : List Lexeme} (kind : Kind) (part after : List ℕ) → text ≡ part ++ after → IsToken kind part after → rest ≡ [] → ReadsTo at text all rest → (more : List Lexeme) × (all ≡ lexeme_at at kind part ∷ more) × ReadsTo (at + length part) after more rest
behind_token kind part after is h none here = absurd (no_token_empty kind part after (sym none ∙ is) h)
behind_token kind part after is h none (ignored part2 after2 is2 h2 more) =
    absurd (let e = pair_inj (sym (token_is h) ∙ ap piece_at (sym is ∙ is2) ∙ ignored_is h2) in cc)
behind_token {at} {rest = rest} kind part after is h none (token {tokens = tokens} kind2 part2 after2 is2 h2 more) =
    let e = pair_inj (sym (token_is h) ∙ ap piece_at (sym is ∙ is2) ∙ token_is h2) in
    let k : kind2 ≡ kind = cc in
    let p = same_part _ part2 after2 part after is2 is (sym e.1) in
    let P : ℕ → Type 0 = λ n. ReadsTo (at + n) after tokens rest in
    let Q : List ℕ → Type 0 = λ l. ReadsTo (at + length part2) l tokens rest in
    (tokens, ap (λ x. lexeme_at at x part2 ∷ tokens) k ∙ ap (λ x. lexeme_at at kind x ∷ tokens) p, subst P (sym e.1) (subst Q (sym (same_after _ part after part2 after2 is is2 e.1)) more))

-- a reading goes on over an ignored part
pub more_ignored : {at : ℕ} {text rest : List ℕ} {tokens : List Lexeme} (part after : List ℕ) → rest ≡ part ++ after → IsIgnored part after → ReadsTo at text tokens rest → ReadsTo at text tokens after
more_ignored part after is h here = ignored part after is h here
more_ignored part after is h (ignored part2 after2 is2 h2 more) = ignored part2 after2 is2 h2 (more_ignored part after is h more)
more_ignored part after is h (token kind part2 after2 is2 h2 more) = token kind part2 after2 is2 h2 (more_ignored part after is h more)

-- a reading goes on over a token, whose place follows from what is left
pub more_token : {at : ℕ} {text rest : List ℕ} {tokens : List Lexeme} (kind : Kind) (part after : List ℕ) (place : ℕ) → rest ≡ part ++ after → IsToken kind part after → place + length rest ≡ at + length text → ReadsTo at text tokens rest → ReadsTo at text (tokens ++ lexeme_at place kind part ∷ []) after
more_token {at} {text} kind part after place is h placed here =
    let same : at ≡ place = omega arith in
    let P : ℕ → Type 0 = λ n. ReadsTo at text (lexeme_at n kind part ∷ []) after in
    subst P same (token kind part after is h here)
more_token kind part after place is h placed (ignored part2 after2 is2 h2 more) =
    ignored part2 after2 is2 h2 (more_token kind part after place is h (omega (arith, ap length is2, length-append part2 after2)) more)
more_token kind part after place is h placed (token kind2 part2 after2 is2 h2 more) =
    token kind2 part2 after2 is2 h2 (more_token kind part after place is h (omega (arith, ap length is2, length-append part2 after2)) more)

pub rest_within : {at : ℕ} {text rest : List ℕ} {tokens : List Lexeme} → ReadsTo at text tokens rest → length rest ≤ length text
rest_within here = omega arith
rest_within (ignored part after is h more) = omega (arith, rest_within more, ap length is, length-append part after)
rest_within (token kind part after is h more) = omega (arith, rest_within more, ap length is, length-append part after)

append_nil : {X : Type 0} (xs : List X) → xs ++ [] ≡ xs
append_nil [] = refl
append_nil (x ∷ xs) = ap (λ l. x ∷ l) (append_nil xs)

-- what a whole reading has behind a reading up to a rest
pub left_over : {at : ℕ} {text rest : List ℕ} {tokens : List Lexeme} (all : List Lexeme) (place : ℕ) → place + length rest ≡ at + length text → ReadsTo at text tokens rest → ReadsTo at text all [] → (more : List Lexeme) × (all ≡ tokens ++ more) × ReadsTo place rest more []
left_over {at} {text} all place placed here whole =
    let same : at ≡ place = omega arith in
    let P : ℕ → Type 0 = λ n. ReadsTo n text all [] in
    (all, refl, subst P same whole)
left_over all place placed (ignored part after is h more) whole =
    left_over all place (omega (arith, ap length is, length-append part after)) more (behind_ignored part after is h refl whole)
left_over {at} all place placed (token {tokens = tokens} kind part after is h more) whole =
    let behind = behind_token kind part after is h refl whole in
    let rest = left_over behind.0 place (omega (arith, ap length is, length-append part after)) more behind.2 in
    (rest.0, behind.1 ∙ ap (λ l. lexeme_at at kind part ∷ l) rest.1, rest.2)

-- a reading that is at its end has nothing left
end_is_empty : {at : ℕ} {text rest : List ℕ} {all : List Lexeme} → text ≡ [] → ReadsTo at text all rest → all ≡ []
end_is_empty none here = refl
end_is_empty none (ignored part after is h more) = absurd (no_ignored_empty part after (sym none ∙ is) h)
end_is_empty none (token kind part after is h more) = absurd (no_token_empty kind part after (sym none ∙ is) h)

-- a text has at most one list of tokens
pub one_reading : (text : List ℕ) (a b : List Lexeme) → Reads text a → Reads text b → a ≡ b
one_reading text a b ra rb =
    let left = left_over b (length text) (omega arith) ra rb in
    sym (left.1 ∙ ap (λ l. a ++ l) (end_is_empty refl left.2) ∙ append_nil a)

-- at a stuck rest no reading goes on
stuck_reads : {at : ℕ} {text rest : List ℕ} {all : List Lexeme} → IsStuck text → rest ≡ [] → ReadsTo at text all rest → ⊥
stuck_reads stuck none here = omega (arith, stuck.some, ap length none)
stuck_reads stuck none (ignored part after is h more) = stuck.no_ignored (part, after, is, h)
stuck_reads stuck none (token kind part after is h more) = stuck.no_token (kind, part, after, is, h)

-- a text with a fault has no tokens
pub bad_has_none : (text : List ℕ) (place : ℕ) (kind : BadKind) (all : List Lexeme) → IsBadAt text place kind → Reads text all → ⊥
bad_has_none text place kind all bad whole =
    let left = left_over all (length text - length bad.rest) (omega (arith, rest_within bad.before)) bad.before whole in
    stuck_reads bad.stuck refl left.2

-- a text that is past the limit has no fewer tokens
pub limit_has_more : (text : List ℕ) (place : ℕ) (all : List Lexeme) → IsLimitAt text place → Reads text all → 2 ^ 20 < length all
limit_has_more text place all limit whole =
    let left = left_over all (length text - length limit.rest) (omega (arith, rest_within limit.before)) limit.before whole in
    let next = behind_token limit.next.0 limit.next.1 limit.next.2 limit.next.3 limit.next.4 refl left.2 in
    omega (arith, ap length left.1, length-append limit.tokens left.0, ap length next.1, limit.many)

step_split : (text : List ℕ) (at n : ℕ) → drop at text ≡ take n (drop at text) ++ drop (at + n) text
step_split text at n = sym (take-append-drop n (drop at text)) ∙ ap (λ l. take n (drop at text) ++ l) (drop-drop n at text)

pub step_ignored : (text : List ℕ) (at : ℕ) (tokens : List Lexeme) (x : Option Kind × ℕ) → x.0 ≡ None → ReadsTo 0 text tokens (drop at text) → Found (drop at text) x → ReadsTo 0 text tokens (drop (at + x.1) text)
step_ignored text at tokens x e reads found =
    more_ignored (take x.1 (drop at text)) (drop (at + x.1) text) (step_split text at x.1) (rw (drop-drop x.1 at text) at (subst (λ (o : Option Kind). IsPiece o (take x.1 (drop at text)) (drop x.1 (drop at text))) e found.is)) reads

pub step_token : (text : List ℕ) (at : ℕ) (tokens : List Lexeme) (x : Option Kind × ℕ) (kind : Kind) → x.0 ≡ Some kind → at ≤ length text → ReadsTo 0 text tokens (drop at text) → Found (drop at text) x → ReadsTo 0 text (tokens ++ lexeme_at at kind (take x.1 (drop at text)) ∷ []) (drop (at + x.1) text)
step_token text at tokens x kind e within reads found =
    more_token kind (take x.1 (drop at text)) (drop (at + x.1) text) at (step_split text at x.1) (rw (drop-drop x.1 at text) at (subst (λ (o : Option Kind). IsPiece o (take x.1 (drop at text)) (drop x.1 (drop at text))) e found.is)) (omega (arith, length-drop at text)) reads

-- a token that is found begins and ends between characters
pub token_cuts : (text : List ℕ) (at : ℕ) (x : Option Kind × ℕ) (kind : Kind) → x.0 ≡ Some kind → IsUtf8 text → at < length text → Found (drop at text) x → IsCharBoundary text at × IsCharBoundary text (at + x.1)
token_cuts text at x kind x_is utf8 within found =
    let part : List ℕ = take x.1 (drop at text) in
    let long : length part ≡ x.1 = length-take-le x.1 (drop at text) found.within in
    let is = subst (λ (o : Option Kind). IsPiece o part (drop x.1 (drop at text))) x_is found.is in
    let P : ℕ → Type 0 = λ n. IsCharBoundary text at × IsCharBoundary text (at + n) in
    subst P long
    (cut_of text (take at text) (drop at text) part (drop x.1 (drop at text)) at utf8 (sym (take-append-drop at text)) (length-take-le at text (omega arith)) (sym (take-append-drop x.1 (drop at text))) (token_edges is))

-- one token more than there may be
pub limit_here : (text : List ℕ) (at : ℕ) (tokens : List Lexeme) (x : Option Kind × ℕ) (kind : Kind) → x.0 ≡ Some kind → at ≤ length text → length tokens ≡ 2 ^ 20 → ReadsTo 0 text tokens (drop at text) → Found (drop at text) x → IsLimitAt text at
limit_here text at tokens x kind e within many reads found = record {
  tokens = tokens;
  rest = drop at text;
  before = reads;
  many = many;
  at = omega (arith, length-drop at text);
  next = (kind, take x.1 (drop at text), drop x.1 (drop at text), sym (take-append-drop x.1 (drop at text)), subst (λ (o : Option Kind). IsPiece o (take x.1 (drop at text)) (drop x.1 (drop at text))) e found.is);
}

-- the token that was cut out
pub lexeme_is : (text bytes : List ℕ) (at : ℕ) (x : Option Kind × ℕ) (kind : Kind) → Found (drop at text) x → bytes ≡ take (at + x.1 - at) (drop at text) → ◌≡◌ {A = Lexeme} (record { kind = kind; text = bytes; span = record { start = at; end = at + x.1 } }) (lexeme_at at kind (take x.1 (drop at text)))
lexeme_is text bytes at x kind found is =
    let n : at + x.1 - at ≡ x.1 = omega arith in
    let same : bytes ≡ take x.1 (drop at text) = is ∙ ap (λ k. take k (drop at text)) n in
    ap (λ (b : List ℕ). record { kind = kind; text = b; span = record { start = at; end = at + x.1 } }) same
    ∙ ap (λ (k : ℕ). record { kind = kind; text = take x.1 (drop at text); span = record { start = at; end = at + k } }) (sym (length-take-le x.1 (drop at text) found.within))

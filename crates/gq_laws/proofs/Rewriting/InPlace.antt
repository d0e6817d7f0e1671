-- In the tree of a text all definitions and selections are in place.
use Rattle.std.proofs.Common.{◌≡◌, ℕ, suc, ◌+◌, ◌-◌, ◌<◌, ◌≤◌, List, [], ◌∷◌, length, take, refl, sym, ap, ◌∙◌, subst, arith}
use Rattle.gq_text.specs.declared.place.Span.{Span}
use Rattle.gq_lex.specs.Tokens.{Lexeme, ReadsTo, here, ignored, token}
use Rattle.gq_lex.proofs.Edges.{token_edges}
use Rattle.gq_tree.specs.Forest.{more}
use Rattle.gq_tree.specs.Plain.{Head, Sels, Def}
use Rattle.gq_parse.specs.Grammar.{Tokens, starts, ends, covered, IsSelection, a_field, a_spread, an_inline, IsOptionalSet, no_set, a_set, IsSelectionSet, braces, IsSelections, set_closed, selection, bare, typed, fragment_on}
use Rattle.gq_parse.specs.Documents.{an_operation, a_fragment, a_type_system_definition, IsDocument, at_end, definition}
use Rattle.gq_rewritten.specs.Rewrites.{head_place}
use Rattle.gq_laws.specs.Rewriting.Places.{HoldsNone, AreNested, AreInPlace}
use Rattle.gq_laws.specs.Rewriting.Trees.{TreesAreInPlace}
use Rattle.gq_laws.proofs.Rewriting.Once.{weaker}
use Rattle.gq_laws.proofs.Rewriting.Past.{Past, at_once, one_on, over, Passed, passed, as_past, over_passed, past_punctuator, past_selection, past_set, past_selections, before_field_set, before_inline_set, before_operation_set, before_fragment_set, past_type_system}

-- tokens stand one after the other behind a bound
abbrev Ascend : ℕ → Tokens → Type 0
Ascend at [] = Unit {0}
Ascend at (t ∷ ts) = (at ≤ t.span.start) × (t.span.start < t.span.end) × Ascend t.span.end ts

lower : (at from : ℕ) (ts : Tokens) → at ≤ from → Ascend from ts → Ascend at ts
lower at from [] l a = tt
lower at from (t ∷ ts) l a = (omega (arith, l, a.0), a.1, a.2)

reads_ascend : {at : ℕ} {text rest : List ℕ} {tokens : Tokens} → ReadsTo at text tokens rest → Ascend at tokens
reads_ascend here = tt
reads_ascend (ignored {at} {tokens} part after e i r) = lower at (at + length part) tokens (omega arith) (reads_ascend r)
reads_ascend (token {at} kind part after e i r) = let edges = token_edges i in let some = edges.some in (omega arith, omega (arith, some), reads_ascend r)

-- the end of the tokens before a rest
abbrev end_of : Tokens → Tokens → ℕ
end_of tokens rest = ends (take (length tokens - length rest) tokens)

shorter : {tokens rest : Tokens} → Past tokens rest → length rest ≤ length tokens
shorter at_once = omega arith
shorter (one_on p) = let i = shorter p in omega (arith, i)

end_one : (t : Lexeme) (rest : Tokens) → end_of (t ∷ rest) rest ≡ t.span.end
end_one t rest = let n : length (t ∷ rest) - length rest ≡ suc 0 = omega arith in ap (λ k. ends (take k (t ∷ rest))) n

end_more : (t u : Lexeme) {us rest : Tokens} → Past us rest → end_of (t ∷ u ∷ us) rest ≡ end_of (u ∷ us) rest
end_more t u {us} {rest} p =
    let l = shorter p in
    let m : length (t ∷ u ∷ us) - length rest ≡ suc (suc (length us - length rest)) = omega (arith, l) in
    let n : length (u ∷ us) - length rest ≡ suc (length us - length rest) = omega (arith, l) in
    ap (λ k. ends (take k (t ∷ u ∷ us))) m ∙ sym (ap (λ k. ends (take k (u ∷ us))) n)

-- behind some tokens
record Behind (t : Lexeme) (tokens rest : Tokens) : Type 0 where
  low : t.span.end ≤ end_of tokens rest
  ascend : Ascend (end_of tokens rest) rest

behind : (t : Lexeme) {ts rest : Tokens} (at : ℕ) → Past ts rest → Ascend at (t ∷ ts) → Behind t (t ∷ ts) rest
behind t {rest} at at_once a = record { low = let e = end_one t rest in omega (arith, e); ascend = subst (λ n. Ascend n rest) (sym (end_one t rest)) a.2 }
behind t {rest} at (one_on {t = u} p) a =
    let i = behind u t.span.end p a.2 in
    let e = end_more t u p in
    let low = a.2.0 in
    let some = a.2.1 in
    let far = i.low in
    record { low = omega (arith, e, low, some, far); ascend = subst (λ n. Ascend n rest) (sym e) i.ascend }

-- a phrase ends where its last part does
same_end : {tokens c rest : Tokens} → Past tokens c → Passed c rest → end_of tokens rest ≡ end_of c rest
same_end at_once q = refl
same_end (one_on {t} p) q = by p q (same_end p q)
  where
    by : {ts c' rest' : Tokens} → Past ts c' → Passed c' rest' → end_of ts rest' ≡ end_of c' rest' → end_of (t ∷ ts) rest' ≡ end_of c' rest'
    by at_once (passed {t = u} r) e = end_more t u r
    by (one_on {t = u} k) q e = end_more t u (over k (as_past q)) ∙ e

-- what is so of the place of a phrase
record Place (at : ℕ) (tokens rest : Tokens) : Type 0 where
  begins : at ≤ starts tokens
  is_some : starts tokens < end_of tokens rest
  ascend : Ascend (end_of tokens rest) rest

placed : (at : ℕ) {tokens rest : Tokens} → Passed tokens rest → Ascend at tokens → Place at tokens rest
placed at (passed {t} p) a = let b = behind t at p a in let low = b.low in record { begins = a.0; is_some = omega (arith, a.1, low); ascend = b.ascend }

-- what comes behind a phrase ends behind it
ends_on : (at : ℕ) {a rest : Tokens} → Passed a rest → Ascend at a → at ≤ end_of a rest
ends_on at p a = let i = placed at p a in let x = i.begins in let y = i.is_some in omega (arith, x, y)

mutual
  nested_below : {h : Head Span} {below : Sels Span} {tokens rest : Tokens} → IsSelection h below tokens rest → (at : ℕ) → Ascend at tokens → AreNested (starts tokens + 1) (end_of tokens rest) below
  nested_below (a_field a b c n g ds s) at asc = nested_optional s (before_field_set n g ds) at asc
  nested_below (a_spread a b p n ds) at asc = tt
  nested_below (an_inline a b c p t ds s) at asc = nested_set s (before_inline_set p t ds) at asc

  nested_optional : {b : _} {ss : Sels Span} {tokens c rest : Tokens} → IsOptionalSet b ss c rest → Past tokens c → (at : ℕ) → Ascend at tokens → AreNested (starts tokens + 1) (end_of tokens rest) ss
  nested_optional (no_set n) p at asc = tt
  nested_optional (a_set s) p at asc = nested_set s p at asc

  -- the selections of a set behind some tokens
  nested_set : {ss : Sels Span} {tokens c rest : Tokens} → IsSelectionSet ss c rest → Past tokens c → (at : ℕ) → Ascend at tokens → AreNested (starts tokens + 1) (end_of tokens rest) ss
  nested_set {ss} {tokens} {rest} (braces {h} {below} {ss = others} a q s) p at asc =
      let i = placed at (over_passed p (past_punctuator q)) asc in
      let x = i.is_some in
      let whole = same_end (over p (as_past (past_punctuator q))) (past_selections s) in
      weaker (starts tokens + 1) (end_of tokens a) (end_of tokens rest) (more h below others) (omega (arith, x))
      (subst (λ n. AreNested (end_of tokens a) n (more h below others)) (sym whole) (nested_selections s (end_of tokens a) i.ascend))

  nested_selections : {ss : Sels Span} {tokens rest : Tokens} → IsSelections ss tokens rest → (at : ℕ) → Ascend at tokens → AreNested at (end_of tokens rest) ss
  nested_selections (set_closed p) at asc = tt
  nested_selections {tokens} {rest} (selection {h} {below} {ss} a x s) at asc =
      let i = placed at (past_selection x) asc in
      let place = at_place x in
      let starts_at : (head_place h).start ≡ starts tokens = ap (λ z. z.start) place in
      let ends_at : (head_place h).end ≡ end_of tokens a = ap (λ z. z.end) place in
      let begins = i.begins in
      let is_some = i.is_some in
      let whole = same_end (as_past (past_selection x)) (past_selections s) in
      let on = ends_on (end_of tokens a) (past_selections s) i.ascend in (
        omega (arith, starts_at, begins),
        omega (arith, starts_at, ends_at, is_some),
        omega (arith, ends_at, whole, on),
        subst (λ m. AreNested (m + 1) (head_place h).end below) (sym starts_at) (subst (λ n. AreNested (starts tokens + 1) n below) (sym ends_at) (nested_below x at asc)),
        subst (λ m. AreNested m (end_of tokens rest) ss) (sym ends_at) (subst (λ n. AreNested (end_of tokens a) n ss) (sym whole) (nested_selections s (end_of tokens a) i.ascend)),
        holds_none x,
      )

  at_place : {h : Head Span} {below : Sels Span} {tokens rest : Tokens} → IsSelection h below tokens rest → head_place h ≡ covered tokens rest
  at_place (a_field a b c n g ds s) = refl
  at_place (a_spread a b p n ds) = refl
  at_place (an_inline a b c p t ds s) = refl

  holds_none : {h : Head Span} {below : Sels Span} {tokens rest : Tokens} → IsSelection h below tokens rest → HoldsNone h below
  holds_none (a_field a b c n g ds s) = tt
  holds_none (a_spread a b p n ds) = refl
  holds_none (an_inline a b c p t ds s) = tt

-- definitions
set_in : {ss : Sels Span} {tokens c rest : Tokens} → IsSelectionSet ss c rest → Past tokens c → (at : ℕ) → Ascend at tokens → AreNested (starts tokens) (end_of tokens rest) ss
set_in {ss} {tokens} {rest} s p at asc = weaker (starts tokens) (starts tokens + 1) (end_of tokens rest) ss (omega arith) (nested_set s p at asc)

documents_in_place : {ds : List (Def Span)} {tokens : Tokens} → IsDocument ds tokens → (at : ℕ) → Ascend at tokens → AreInPlace at ds
documents_in_place at_end at asc = tt
documents_in_place (definition a (an_operation (bare s)) ds) at asc =
    let i = placed at (past_set s) asc in (i.begins, i.is_some, set_in s at_once at asc, documents_in_place ds _ i.ascend)
documents_in_place (definition a (an_operation (typed b c d e t n vs xs s)) ds) at asc =
    let p = before_operation_set t n vs xs in
    let i = placed at (over_passed p (past_set s)) asc in (i.begins, i.is_some, set_in s p at asc, documents_in_place ds _ i.ascend)
documents_in_place (definition a (a_fragment (fragment_on b c d e first w n t xs s)) ds) at asc =
    let p = before_fragment_set w n t xs in
    let i = placed at (over_passed p (past_set s)) asc in (i.begins, i.is_some, set_in s p at asc, documents_in_place ds _ i.ascend)
documents_in_place (definition {tokens} a (a_type_system_definition x) ds) at asc =
    let i = placed at (past_type_system x) asc in
    let begins = i.begins in
    let is_some = i.is_some in
    documents_in_place ds at (lower at (end_of tokens a) a (omega (arith, begins, is_some)) i.ascend)

pub trees_are_in_place : TreesAreInPlace
trees_are_in_place text document derives = documents_in_place derives.derived 0 (reads_ascend derives.reads)

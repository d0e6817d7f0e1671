-- The parts of a document's tree begin and end where tokens of its text do, and so cut no character.
use Rattle.std.proofs.Common.{◌≡◌, ◌⊎◌, inl, inr, ℕ, suc, ◌+◌, ◌-◌, ◌<◌, ◌≤◌, false, List, [], ◌∷◌, length, take, refl, sym, ap, ◌∙◌, subst, arith, IsUtf8}
use Rattle.std.specs.List.{AllByRecursion}
use Rattle.std.specs.Str.{IsCharBoundary}
use Rattle.std.proofs.lemmas.List.Elements.{recursion_from_All}
use Rattle.gq_text.specs.declared.place.Span.{Span}
use Rattle.gq_lex.specs.declared.token.Kind.{Kind}
use Rattle.gq_lex.specs.declared.token.Kind.TheVariants as kind
use Rattle.gq_lex.specs.Tokens.{Lexeme, IsToken, sign, spread, name, int, float, empty_string, string, block_string, ReadsTo, Reads}
use Rattle.gq_lex.specs.Tokens as tokens_of
use Rattle.gq_lex.specs.Places.{StandIn, IsCutOf}
use Rattle.gq_lex.proofs.Standing.{tokens_stand, tokens_cut_no_character}
use Rattle.gq_tree.specs.Forest.{more}
use Rattle.gq_tree.specs.Plain as tree
use Rattle.gq_tree.specs.Plain.{DirectiveOf, Head, Sels, Def}
use Rattle.gq_parse.specs.Derives.{Derives}
use Rattle.gq_parse.specs.Grammar.{Tokens, IsPunctuator, starts, ends, covered, IsDirectives, no_directive, a_directive, IsSelection, a_field, a_spread, an_inline, IsOptionalSet, no_set, a_set, IsSelectionSet, braces, IsSelections, set_closed, selection, bare, typed, fragment_on}
use Rattle.gq_parse.specs.Documents.{an_operation, a_fragment, a_type_system_definition, IsDocument, at_end, definition}
use Rattle.gq_laws.specs.Rewriting.KnownBefore.{Each}
use Rattle.gq_laws.specs.Rewriting.Parts.{PlaceEnds, between, DirectivesEnd, HeadEnds, DefinitionEnds, TreesCutNoCharacter}
use Rattle.gq_laws.proofs.Rewriting.Past.{Past, at_once, one_on, over, Passed, passed, as_past, over_passed, passed_over, past_punctuator, past_selection, past_set, past_selections, past_one_directive, before_directives, before_field_set, before_inline_set, before_operation_set, before_fragment_set, past_type_system}

-- a brace is one byte
abbrev IsNarrow : Lexeme → Type 0
IsNarrow t = (t.kind ≡ kind.BraceOpen) ⊎ (t.kind ≡ kind.BraceClose) → t.span.end ≡ t.span.start + 1

one_byte : {k : Kind} {part after : List ℕ} → IsToken k part after → (k ≡ kind.BraceOpen) ⊎ (k ≡ kind.BraceClose) → length part ≡ 1
one_byte (sign e) h = refl
one_byte spread (inl e) = absurd (cc)
one_byte spread (inr e) = absurd (cc)
one_byte (name a b c) (inl e) = absurd (cc)
one_byte (name a b c) (inr e) = absurd (cc)
one_byte (int a b) (inl e) = absurd (cc)
one_byte (int a b) (inr e) = absurd (cc)
one_byte (float a b) (inl e) = absurd (cc)
one_byte (float a b) (inr e) = absurd (cc)
one_byte (empty_string a) (inl e) = absurd (cc)
one_byte (empty_string a) (inr e) = absurd (cc)
one_byte (string body value a b c) (inl e) = absurd (cc)
one_byte (string body value a b c) (inr e) = absurd (cc)
one_byte (block_string a) (inl e) = absurd (cc)
one_byte (block_string a) (inr e) = absurd (cc)

narrow : {at : ℕ} {text rest : List ℕ} {tokens : Tokens} → ReadsTo at text tokens rest → AllByRecursion IsNarrow tokens
narrow tokens_of.here = tt
narrow (tokens_of.ignored part after e i r) = narrow r
narrow (tokens_of.token {at} k part after e i r) = (λ h. ap (λ (n : ℕ). at + n) (one_byte i h), narrow r)

-- tokens stand one after the other behind a bound, and something holds of the ends of each
abbrev Stand : (ℕ → Type 0) → ℕ → Tokens → Type 0
Stand IsEnd at [] = Unit {0}
Stand IsEnd at (t ∷ ts) = (at ≤ t.span.start) × (t.span.start < t.span.end) × (IsEnd t.span.start × IsEnd t.span.end) × IsNarrow t × Stand IsEnd t.span.end ts

stand_all : (IsEnd : ℕ → Type 0) (text : List ℕ) (at : ℕ) (ts : Tokens) → StandIn text at ts → AllByRecursion (λ t. IsEnd t.span.start × IsEnd t.span.end) ts → AllByRecursion IsNarrow ts → Stand IsEnd at ts
stand_all IsEnd text at [] s c n = tt
stand_all IsEnd text at (t ∷ ts) s c n = (s.0, s.1, c.0, n.0, stand_all IsEnd text t.span.end ts s.3 c.1 n.1)

lower : (IsEnd : ℕ → Type 0) (at from : ℕ) (ts : Tokens) → at ≤ from → Stand IsEnd from ts → Stand IsEnd at ts
lower IsEnd at from [] l s = tt
lower IsEnd at from (t ∷ ts) l s = (omega (arith, l, s.0), s.1, s.2, s.3, s.4)

-- the end of the tokens before a rest
abbrev end_of : Tokens → Tokens → ℕ
end_of tokens rest = ends (take (length tokens - length rest) tokens)

shorter : {tokens rest : Tokens} → Past tokens rest → length rest ≤ length tokens
shorter at_once = omega arith
shorter (one_on p) = let i = shorter p in omega (arith, i)

end_one : (t : Lexeme) (rest : Tokens) → end_of (t ∷ rest) rest ≡ t.span.end
end_one t rest = let n : length (t ∷ rest) - length rest ≡ suc 0 = omega arith in ap (λ k. ends (take k (t ∷ rest))) n

end_more : (t u : Lexeme) {us rest : Tokens} → Past us rest → end_of (t ∷ u ∷ us) rest ≡ end_of (u ∷ us) rest
end_more t u {us} {rest} p =
    let l = shorter p in
    let m : length (t ∷ u ∷ us) - length rest ≡ suc (suc (length us - length rest)) = omega (arith, l) in
    let n : length (u ∷ us) - length rest ≡ suc (length us - length rest) = omega (arith, l) in
    ap (λ k. ends (take k (t ∷ u ∷ us))) m ∙ sym (ap (λ k. ends (take k (u ∷ us))) n)

-- behind some tokens
record Behind (IsEnd : ℕ → Type 0) (t : Lexeme) (tokens rest : Tokens) : Type 0 where
  low : t.span.end ≤ end_of tokens rest
  cut : IsEnd (end_of tokens rest)
  stand : Stand IsEnd (end_of tokens rest) rest

behind : (IsEnd : ℕ → Type 0) (t : Lexeme) {ts rest : Tokens} (at : ℕ) → Past ts rest → Stand IsEnd at (t ∷ ts) → Behind IsEnd t (t ∷ ts) rest
behind IsEnd t {rest} at at_once s = record {
  low = let e = end_one t rest in omega (arith, e);
  cut = subst IsEnd (sym (end_one t rest)) s.2.1;
  stand = subst (λ n. Stand IsEnd n rest) (sym (end_one t rest)) s.4;
}
behind IsEnd t {rest} at (one_on {t = u} p) s =
    let i = behind IsEnd u t.span.end p s.4 in
    let e = end_more t u p in
    let low = s.4.0 in
    let some = s.4.1 in
    let far = i.low in
    record { low = omega (arith, e, low, some, far); cut = subst IsEnd (sym e) i.cut; stand = subst (λ n. Stand IsEnd n rest) (sym e) i.stand }

-- a phrase ends where its last part does
same_end : {tokens c rest : Tokens} → Past tokens c → Passed c rest → end_of tokens rest ≡ end_of c rest
same_end at_once q = refl
same_end (one_on {t} p) q = by p q (same_end p q)
  where
    by : {ts c' rest' : Tokens} → Past ts c' → Passed c' rest' → end_of ts rest' ≡ end_of c' rest' → end_of (t ∷ ts) rest' ≡ end_of c' rest'
    by at_once (passed {t = u} r) e = end_more t u r
    by (one_on {t = u} k) q e = end_more t u (over k (as_past q)) ∙ e

-- what is so of the place of a phrase
record Placed (IsEnd : ℕ → Type 0) (at : ℕ) (tokens rest : Tokens) : Type 0 where
  begins : at ≤ starts tokens
  is_some : starts tokens < end_of tokens rest
  start_cut : IsEnd (starts tokens)
  end_cut : IsEnd (end_of tokens rest)
  stand : Stand IsEnd (end_of tokens rest) rest

placed : (IsEnd : ℕ → Type 0) (at : ℕ) {tokens rest : Tokens} → Passed tokens rest → Stand IsEnd at tokens → Placed IsEnd at tokens rest
placed IsEnd at (passed {t} p) s =
    let b = behind IsEnd t at p s in
    let low = b.low in
    let some = s.1 in
    record { begins = s.0; is_some = omega (arith, some, low); start_cut = s.2.0; end_cut = b.cut; stand = b.stand }

part : (IsEnd : ℕ → Type 0) (at : ℕ) {tokens rest : Tokens} → Passed tokens rest → Stand IsEnd at tokens → PlaceEnds IsEnd (covered tokens rest)
part IsEnd at p s = let i = placed IsEnd at p s in let some = i.is_some in (omega (arith, some), i.start_cut, i.end_cut)

-- what stands behind some tokens
rest_stands : (IsEnd : ℕ → Type 0) (at : ℕ) {tokens rest : Tokens} → Past tokens rest → Stand IsEnd at tokens → (from : ℕ) × (at ≤ from) × Stand IsEnd from rest
rest_stands IsEnd at at_once s = (at, omega arith, s)
rest_stands IsEnd at {rest = rest} (one_on {t = t} {tokens = ts} p) s = let i = placed IsEnd at (passed {t = t} p) s in let a = i.begins in let b = i.is_some in (end_of (t ∷ ts) rest, omega (arith, a, b), i.stand)

-- directives
directives_fit : (IsEnd : ℕ → Type 0) (at : ℕ) {ds : List (DirectiveOf Span)} {tokens rest : Tokens} → IsDirectives false ds tokens rest → Stand IsEnd at tokens → DirectivesEnd IsEnd at ds
directives_fit IsEnd at (no_directive n) s = tt
directives_fit IsEnd at {tokens = tokens} (a_directive a b c p n g ds) s =
    let one = past_one_directive p n g in
    let i = placed IsEnd at one s in
    (i.begins, part IsEnd at one s, directives_fit IsEnd (end_of tokens c) ds i.stand)

-- a lower bound does
lower_directives : (IsEnd : ℕ → Type 0) (at from : ℕ) (ds : List (DirectiveOf Span)) → at ≤ from → DirectivesEnd IsEnd from ds → DirectivesEnd IsEnd at ds
lower_directives IsEnd at from [] l h = tt
lower_directives IsEnd at from (d ∷ ds) l h = (let low = h.0 in omega (arith, l, low), h.1, h.2)

-- braces
record Closed (IsEnd : ℕ → Type 0) (at : ℕ) (tokens rest : Tokens) : Type 0 where
  start : ℕ
  behind_it : at ≤ start
  is_end : start + 1 ≡ end_of tokens rest
  cut : IsEnd start

closed_by : (IsEnd : ℕ → Type 0) (at : ℕ) {tokens rest : Tokens} → IsPunctuator kind.BraceClose tokens rest → Stand IsEnd at tokens → Closed IsEnd at tokens rest
closed_by IsEnd at {tokens} {rest} p s =
    let t : Lexeme = p.token in
    let here : Stand IsEnd at (t ∷ rest) = subst (Stand IsEnd at) p.first s in
    let one : t.span.end ≡ t.span.start + 1 = here.3 (inr p.kind) in
    record { start = t.span.start; behind_it = here.0; is_end = sym (ap (λ (ts : Tokens). end_of ts rest) p.first ∙ end_one t rest ∙ one); cut = here.2.0 }

closed : (IsEnd : ℕ → Type 0) (at : ℕ) {ss : Sels Span} {tokens rest : Tokens} → IsSelections ss tokens rest → Stand IsEnd at tokens → Closed IsEnd at tokens rest
closed IsEnd at (set_closed p) s = closed_by IsEnd at p s
closed IsEnd at {tokens = tokens} {rest = rest} (selection a x others) s =
    let i = placed IsEnd at (past_selection x) s in
    let c = closed IsEnd (end_of tokens a) others i.stand in
    let begins = i.begins in
    let some = i.is_some in
    let low = c.behind_it in
    record { start = c.start; behind_it = omega (arith, begins, some, low); is_end = c.is_end ∙ sym (same_end (as_past (past_selection x)) (past_selections others)); cut = c.cut }

between_fits : (IsEnd : ℕ → Type 0) (at : ℕ) {ss : Sels Span} {tokens rest : Tokens} → IsSelectionSet ss tokens rest → Stand IsEnd at tokens → PlaceEnds IsEnd (between (covered tokens rest))
between_fits IsEnd at {tokens = tokens} {rest = rest} (braces a p others) s =
    let t : Lexeme = p.token in
    let here : Stand IsEnd at (t ∷ a) = subst (Stand IsEnd at) p.first s in
    let one : t.span.end ≡ t.span.start + 1 = here.3 (inl p.kind) in
    let starts_at : starts tokens ≡ t.span.start = ap starts p.first in
    let c = closed IsEnd t.span.end others here.4 in
    let whole : end_of tokens rest ≡ end_of a rest = same_end (as_past (past_punctuator p)) (past_selections others) in
    let low = c.behind_it in
    let is_end = c.is_end in
    let first : starts tokens + 1 ≡ t.span.end = omega (arith, starts_at, one) in
    let last : end_of tokens rest - 1 ≡ c.start = omega (arith, whole, is_end) in
    (omega (arith, first, last, low), subst IsEnd (sym first) here.2.1, subst IsEnd (sym last) c.cut)

-- selections
mutual
  head_fits : (IsEnd : ℕ → Type 0) (at : ℕ) {h : Head Span} {below : Sels Span} {tokens rest : Tokens} → IsSelection h below tokens rest → Stand IsEnd at tokens → HeadEnds IsEnd h
  head_fits IsEnd at (a_field a b c n g ds o) s = tt
  head_fits IsEnd at (a_spread a b p n ds) s =
      let r = rest_stands IsEnd at (before_directives p n) s in
      (part IsEnd at (past_selection (a_spread a b p n ds)) s, lower_directives IsEnd 0 r.0 _ (omega arith) (directives_fit IsEnd r.0 ds r.2))
  head_fits IsEnd at (an_inline a b c p t ds o) s =
      let r = rest_stands IsEnd at (before_inline_set p t ds) s in
      (part IsEnd at (past_selection (an_inline a b c p t ds o)) s, between_fits IsEnd r.0 o r.2)

  below_fits : (IsEnd : ℕ → Type 0) (at : ℕ) {h : Head Span} {below : Sels Span} {tokens rest : Tokens} → IsSelection h below tokens rest → Stand IsEnd at tokens → Each (HeadEnds IsEnd) below
  below_fits IsEnd at (a_field a b c n g ds o) s = let r = rest_stands IsEnd at (before_field_set n g ds) s in optional_fits IsEnd r.0 o r.2
  below_fits IsEnd at (a_spread a b p n ds) s = tt
  below_fits IsEnd at (an_inline a b c p t ds o) s = let r = rest_stands IsEnd at (before_inline_set p t ds) s in set_fits IsEnd r.0 o r.2

  optional_fits : (IsEnd : ℕ → Type 0) (at : ℕ) {b : _} {ss : Sels Span} {tokens rest : Tokens} → IsOptionalSet b ss tokens rest → Stand IsEnd at tokens → Each (HeadEnds IsEnd) ss
  optional_fits IsEnd at (no_set n) s = tt
  optional_fits IsEnd at (a_set o) s = set_fits IsEnd at o s

  set_fits : (IsEnd : ℕ → Type 0) (at : ℕ) {ss : Sels Span} {tokens rest : Tokens} → IsSelectionSet ss tokens rest → Stand IsEnd at tokens → Each (HeadEnds IsEnd) ss
  set_fits IsEnd at (braces a p others) s = let r = rest_stands IsEnd at (as_past (past_punctuator p)) s in selections_fit IsEnd r.0 others r.2

  selections_fit : (IsEnd : ℕ → Type 0) (at : ℕ) {ss : Sels Span} {tokens rest : Tokens} → IsSelections ss tokens rest → Stand IsEnd at tokens → Each (HeadEnds IsEnd) ss
  selections_fit IsEnd at (set_closed p) s = tt
  selections_fit IsEnd at (selection a x others) s =
      let i = placed IsEnd at (past_selection x) s in
      (head_fits IsEnd at x s, below_fits IsEnd at x s, selections_fit IsEnd _ others i.stand)

-- definitions
documents_fit : (IsEnd : ℕ → Type 0) {ds : List (Def Span)} {tokens : Tokens} → IsDocument ds tokens → (at : ℕ) → Stand IsEnd at tokens → AllByRecursion (DefinitionEnds IsEnd) ds
documents_fit IsEnd at_end at s = tt
documents_fit IsEnd (definition a (an_operation (bare o)) ds) at s =
    let i = placed IsEnd at (past_set o) s in (set_fits IsEnd at o s, documents_fit IsEnd ds _ i.stand)
documents_fit IsEnd (definition a (an_operation (typed b c d e t n vs xs o)) ds) at s =
    let p = before_operation_set t n vs xs in
    let i = placed IsEnd at (over_passed p (past_set o)) s in
    let r = rest_stands IsEnd at p s in
    (set_fits IsEnd r.0 o r.2, documents_fit IsEnd ds _ i.stand)
documents_fit IsEnd (definition a (a_fragment (fragment_on b c d e first w n t xs o)) ds) at s =
    let p = before_fragment_set w n t xs in
    let i = placed IsEnd at (over_passed p (past_set o)) s in
    let r = rest_stands IsEnd at p s in
    ((part IsEnd at (over_passed p (past_set o)) s, part IsEnd r.0 (past_set o) r.2, set_fits IsEnd r.0 o r.2), documents_fit IsEnd ds _ i.stand)
documents_fit IsEnd (definition a (a_type_system_definition x) ds) at s =
    let i = placed IsEnd at (past_type_system x) s in (tt, documents_fit IsEnd ds _ i.stand)

-- what holds of the ends of each token of a text holds of the ends of each part of its tree
pub parts_end : (IsEnd : ℕ → Type 0) (text : List ℕ) (document : List (Def Span)) (derives : Derives text document) → AllByRecursion (λ t. IsEnd t.span.start × IsEnd t.span.end) derives.tokens → AllByRecursion (DefinitionEnds IsEnd) document
parts_end IsEnd text document derives ends =
    documents_fit IsEnd derives.derived 0 (stand_all IsEnd text 0 derives.tokens (tokens_stand text derives.tokens derives.reads) ends (narrow derives.reads))

pub trees_cut_no_character : TreesCutNoCharacter
trees_cut_no_character text document utf8 derives =
    parts_end (IsCharBoundary text) text document derives (recursion_from_All (IsCutOf text) derives.tokens (tokens_cut_no_character text derives.tokens utf8 derives.reads))

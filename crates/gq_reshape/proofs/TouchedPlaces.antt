-- The tokens that a range touches begin and end between characters.
use Rattle.std.proofs.Common.{◌≡◌, ℕ, ◌≤◌, Bool, true, false, cond, List, [], ◌∷◌, Option, Some, None, find, refl, sym, ap, ◌∙◌, subst, arith, IsUtf8}
use Rattle.std.specs.Prelude.{if◌then◌else◌}
use Rattle.std.specs.List.{All}
use Rattle.std.specs.Option.{option_map, option_or}
use Rattle.std.specs.Str.{IsCharBoundary}
use Rattle.std.proofs.lemmas.List.Elements.{All-head, All-tail}
use Rattle.gq_text.specs.declared.place.Span.{Span}
use Rattle.gq_lex.specs.Places.{StandIn, IsCutOf}
use Rattle.gq_lex.specs.Tokens.{Lexeme}
use Rattle.gq_lex.proofs.Standing.{tokens_stand, tokens_cut_no_character}
use Rattle.gq_document.specs.Last.{find_last}
use Rattle.gq_laws.specs.Rewriting.Parts.{IsPartOf}
use Rattle.gq_select.specs.Touched.{Touches, is_touched}

abbrev start_of : Option Lexeme → Option ℕ
start_of o = option_map (λ t. t.span.start) o

abbrev end_of : Option Lexeme → Option ℕ
end_of o = option_map (λ t. t.span.end) o

or_none : (o : Option Lexeme) → option_or o None ≡ o
or_none None = refl
or_none (Some t) = refl

module _ (p : Lexeme → Bool) (text : List ℕ) where
  -- the last one that passes ends behind the bound
  last_behind : (at : ℕ) (ts : List Lexeme) (e : ℕ) → StandIn text at ts → end_of (find_last p ts) ≡ Some e → at ≤ e
  last_behind at [] e s f = absurd (cc)
  last_behind at (t ∷ ts) e s f = by (find_last p ts) refl f (λ g. last_behind t.span.end ts e s.3 g)
    where
      own : (b : Bool) → end_of (if b then Some t else None) ≡ Some e → at ≤ e
      own true h = let same : t.span.end ≡ e = cc in let low = s.0 in let some = s.1 in omega (arith, same, low, some)
      own false h = absurd (cc)

      by : (o : Option Lexeme) → find_last p ts ≡ o → end_of (option_or o (if p t then Some t else None)) ≡ Some e → (end_of (find_last p ts) ≡ Some e → t.span.end ≤ e) → at ≤ e
      by (Some u) g h next = let far = next (ap end_of g ∙ h) in let low = s.0 in let some = s.1 in omega (arith, far, low, some)
      by None g h next = own (p t) h

  -- the first one that passes starts before the last one ends
  first_before_last : (at : ℕ) (ts : List Lexeme) (a e : ℕ) → StandIn text at ts → start_of (find p ts) ≡ Some a → end_of (find_last p ts) ≡ Some e → a ≤ e
  first_before_last at [] a e s f l = absurd (cc)
  first_before_last at (t ∷ ts) a e s f l = by (p t) refl f (λ g h. first_before_last t.span.end ts a e s.3 g h)
    where
      by : (b : Bool) → p t ≡ b → start_of (cond b (Some t) (find p ts)) ≡ Some a → (start_of (find p ts) ≡ Some a → end_of (find_last p ts) ≡ Some e → a ≤ e) → a ≤ e
      by true q g next =
          let same : t.span.start ≡ a = cc in
          let far = last_behind t.span.start (t ∷ ts) e (omega arith, s.1, s.2, s.3) l in
          omega (arith, same, far)
      by false q g next = next g (sym (ap end_of (or_none (find_last p ts))) ∙ sym (ap (λ (b : Bool). end_of (option_or (find_last p ts) (if b then Some t else None))) q) ∙ l)

  first_cut : (ts : List Lexeme) (a : ℕ) → All (IsCutOf text) ts → start_of (find p ts) ≡ Some a → IsCharBoundary text a
  first_cut [] a c f = absurd (cc)
  first_cut (t ∷ ts) a c f = by (p t) f (λ g. first_cut ts a (All-tail (IsCutOf text) t ts c) g)
    where
      by : (b : Bool) → start_of (cond b (Some t) (find p ts)) ≡ Some a → (start_of (find p ts) ≡ Some a → IsCharBoundary text a) → IsCharBoundary text a
      by true g next = let same : t.span.start ≡ a = cc in subst (IsCharBoundary text) same (All-head (IsCutOf text) t ts c).0
      by false g next = next g

  last_cut : (ts : List Lexeme) (e : ℕ) → All (IsCutOf text) ts → end_of (find_last p ts) ≡ Some e → IsCharBoundary text e
  last_cut [] e c f = absurd (cc)
  last_cut (t ∷ ts) e c f = by (find_last p ts) refl f (λ g. last_cut ts e (All-tail (IsCutOf text) t ts c) g)
    where
      own : (b : Bool) → end_of (if b then Some t else None) ≡ Some e → IsCharBoundary text e
      own true h = let same : t.span.end ≡ e = cc in subst (IsCharBoundary text) same (All-head (IsCutOf text) t ts c).1
      own false h = absurd (cc)

      by : (o : Option Lexeme) → find_last p ts ≡ o → end_of (option_or o (if p t then Some t else None)) ≡ Some e → (end_of (find_last p ts) ≡ Some e → IsCharBoundary text e) → IsCharBoundary text e
      by (Some u) g h next = next (ap end_of g ∙ h)
      by None g h next = own (p t) h

pub touched_part : (text : List ℕ) (range place : Span) → IsUtf8 text → Touches text range place → IsPartOf text place
touched_part text range place utf8 t =
    let stand = tokens_stand text t.tokens t.reads in
    let cut = tokens_cut_no_character text t.tokens utf8 t.reads in (
      first_before_last (is_touched range) text 0 t.tokens place.start place.end stand t.first t.last,
      first_cut (is_touched range) text t.tokens place.start cut t.first,
      last_cut (is_touched range) text t.tokens place.end cut t.last,
    )

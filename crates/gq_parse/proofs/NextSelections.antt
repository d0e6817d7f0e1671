-- Selections.
use Rattle.std.proofs.Common.{◌≡◌, ◌≢◌, List, [], ◌∷◌, false, Option, None, refl, ap, sym, subst, inl, inr, ◌∙◌}
use Rattle.std.specs.Prelude.{codes}
use Rattle.gq_text.specs.declared.place.Span.{Span}
use Rattle.gq_lex.specs.declared.token.Kind.{Kind}
use Rattle.gq_lex.specs.declared.token.Kind.TheVariants as kind
use Rattle.gq_lex.specs.Tokens.{Lexeme}
use Rattle.gq_tree.specs.Forest.{more}
use Rattle.gq_tree.specs.Plain.{NameOf, DirectiveOf, Head, Sels}
use Rattle.gq_parse.specs.Grammar.{Tokens, IsPunctuator, IsName, NotNext, IsFragmentName, IsOptionalCondition, no_condition, a_condition, IsDirectives, no_directive, a_directive, IsFieldName, no_alias, alias, IsSelection, a_field, a_spread, an_inline, no_set, a_set, IsSelectionSet, braces, set_closed, selection}
use Rattle.gq_parse.specs.Helping.Words.{word_of}
use Rattle.gq_parse.specs.declared.expected.Word.{Word}
use Rattle.gq_parse.specs.declared.expected.Word.TheVariants as word
use Rattle.gq_parse.specs.declared.expected.Row.TheVariants.{Arguments}
use Rattle.gq_parse.specs.declared.expected.Symbol.TheVariants.{AnyName, Directives, OptionalRow, OptionalAlias, Set, OptionalSet, FirstSelection, MoreSelections, AfterDots}
use Rattle.gq_parse.specs.declared.expected.Move.{Move}
use Rattle.gq_parse.specs.declared.expected.Move.TheVariants.{TakesThen, TakesThenFour, Skips, Stops}
use Rattle.gq_parse.specs.Helping.Expected.{behind, set_move, selection_move, selections_move, dots_word_move, dots_move}
use Rattle.gq_parse.proofs.Means.{Means, After, Next, punctuator, spelled, here, name_here, keyword_here, at_kind, at_word, by_move, CanGoOn, put_behind, taken_off}
use Rattle.gq_parse.proofs.WordsAre.{spells, keyword_is}

-- SelectionSet
forth_braces : {ss : Sels Span} (t : Lexeme) (ts y : Tokens) (m : Move) → IsSelectionSet ss (t ∷ ts) y → After (set_move t.kind m) t ts y
forth_braces t ts y m (braces a p h) =
    let e = punctuator p in
    by_move t ts y (TakesThen FirstSelection) (set_move t.kind m) (ap (λ (k : Kind). set_move k m) e.0) (subst (λ (x : Tokens). Means FirstSelection x y) e.1 (_, _, _, h))

set_here : (t : Lexeme) (ts y : Tokens) → t.kind ≡ kind.BraceOpen → Means FirstSelection ts y → Means Set (t ∷ ts) y
set_here t ts y e (h, below, ss, s) = (more h below ss, braces ts (here e) s)

pub forth_set : (t : Lexeme) (ts y : Tokens) → Means Set (t ∷ ts) y → Next Set t ts y
forth_set t ts y (ss, h) = forth_braces t ts y Stops h

pub back_set : (t : Lexeme) (ts y : Tokens) (k : Kind) → t.kind ≡ k → After (set_move k Stops) t ts y → Means Set (t ∷ ts) y
back_set t ts y kind.BraceOpen e h = set_here t ts y e h
back_set t ts y _ e h = absurd h

pub forth_optional_set : (t : Lexeme) (ts y : Tokens) → Means OptionalSet (t ∷ ts) y → Next OptionalSet t ts y
forth_optional_set t ts y (o, ss, no_set n) = by_move t ts y Skips (set_move t.kind Skips) (skips t.kind n) refl
  where
    skips : (k : Kind) → k ≢ kind.BraceOpen → set_move k Skips ≡ Skips
    skips kind.BraceOpen n = absurd (n refl)
    skips _ n = refl
forth_optional_set t ts y (o, ss, a_set h) = forth_braces t ts y Skips h

pub back_optional_set : (t : Lexeme) (ts y : Tokens) (k : Kind) → t.kind ≡ k → After (set_move k Skips) t ts y → Means OptionalSet (t ∷ ts) y
back_optional_set t ts y kind.BraceOpen e h = let s = set_here t ts y e h in (_, s.0, a_set s.1)
back_optional_set t ts y _ e h = subst (Means OptionalSet (t ∷ ts)) h (_, _, no_set (λ q. cc))

-- Selection
field_name : {o : Option (NameOf Span)} {n : NameOf Span} (t : Lexeme) (ts a : Tokens) → IsFieldName o n (t ∷ ts) a → (t.kind ≡ kind.Name) × Means OptionalAlias ts a
field_name t ts a (no_alias h free) = let e = spelled h in (e.0, inl (subst (NotNext kind.Colon) e.1 free, sym e.1))
field_name t ts a (alias b c h p n) = let e = spelled h in (e.0, inr (c, _, subst (λ (x : Tokens). IsPunctuator kind.Colon x c) e.1 p, n))

is_field_name : (t : Lexeme) (ts a : Tokens) → t.kind ≡ kind.Name → Means OptionalAlias ts a → (o : Option (NameOf Span)) × (n : NameOf Span) × IsFieldName o n (t ∷ ts) a
is_field_name t ts a e (inl (free, f)) = (None, _, no_alias (subst (λ (x : Tokens). IsName (record { text = t.text; place = t.span }) (t ∷ ts) x) f (name_here e)) (subst (NotNext kind.Colon) f free))
is_field_name t ts a e (inr (b, n, p, h)) = (_, n, alias ts b (name_here e) p h)

forth_selection : {h : Head Span} {below : Sels Span} (t : Lexeme) (ts y : Tokens) → IsSelection h below (t ∷ ts) y → After (selection_move t.kind) t ts y
forth_selection t ts y (a_field a b c n i j s) =
    let e = field_name t ts a n in
    by_move t ts y (TakesThenFour OptionalAlias (OptionalRow (Arguments false)) (Directives false) OptionalSet) (selection_move t.kind) (ap selection_move e.0) (a, b, c, e.1, (_, i), (_, j), (_, _, s))
forth_selection t ts y (a_spread a b p n j) =
    let e = punctuator p in
    by_move t ts y (TakesThen AfterDots) (selection_move t.kind) (ap selection_move e.0) (t ∷ ts, _, _, a_spread a b p n j, here e.0)
forth_selection t ts y (an_inline a b c p o j s) =
    let e = punctuator p in
    by_move t ts y (TakesThen AfterDots) (selection_move t.kind) (ap selection_move e.0) (t ∷ ts, _, _, an_inline a b c p o j s, here e.0)

same_rest : {k j : Kind} {x a b : Tokens} → IsPunctuator k x a → IsPunctuator j x b → a ≡ b
same_rest p q = let e = p.first in let f = q.first in cc

no_field : {o : Option (NameOf Span)} {n : NameOf Span} {x a b : Tokens} → IsFieldName o n x a → IsPunctuator kind.Spread x b → ⊥
no_field (no_alias h free) p = let e = h.first in let f = p.first in let g = h.kind in let i = p.kind in cc
no_field (alias c d h q n) p = let e = h.first in let f = p.first in let g = h.kind in let i = p.kind in cc

back_dots : {h : Head Span} {below : Sels Span} (t : Lexeme) (ts before y : Tokens) → t.kind ≡ kind.Spread → IsSelection h below before y → IsPunctuator kind.Spread before ts → (g : Head Span) × (ss : Sels Span) × IsSelection g ss (t ∷ ts) y
back_dots t ts before y e (a_field a b c n i j s) p = absurd (no_field n p)
back_dots t ts before y e (a_spread {name = name} a b q n j) p = (_, _, a_spread ts b (here e) (subst (λ (x : Tokens). IsFragmentName name x b) (same_rest q p) n) j)
back_dots t ts before y e (an_inline {on = on} a b c q o j s) p = (_, _, an_inline ts b c (here e) (subst (λ (x : Tokens). IsOptionalCondition on x b) (same_rest q p) o) j s)

back_selection : (t : Lexeme) (ts y : Tokens) (k : Kind) → t.kind ≡ k → After (selection_move k) t ts y → (h : Head Span) × (below : Sels Span) × IsSelection h below (t ∷ ts) y
back_selection t ts y kind.Name e (m, n, o, a, b, c, d) = let f = is_field_name t ts m e a in (_, _, a_field m n o f.2 b.1 c.1 d.2)
back_selection t ts y kind.Spread e (before, h, below, s, p) = back_dots t ts before y e s p
back_selection t ts y _ e h = absurd h

selection_goes_on : (k : Kind) → CanGoOn (selection_move k)
selection_goes_on kind.Name = tt
selection_goes_on _ = tt

-- Selection* }
pub forth_first_selection : (t : Lexeme) (ts y : Tokens) → Means FirstSelection (t ∷ ts) y → Next FirstSelection t ts y
forth_first_selection t ts y (h, below, ss, selection a s i) =
    put_behind t ts a y (selection_move t.kind) MoreSelections (selection_goes_on t.kind) (forth_selection t ts a s) (_, i)

pub back_first_selection : (t : Lexeme) (ts y : Tokens) → After (behind (selection_move t.kind) MoreSelections) t ts y → Means FirstSelection (t ∷ ts) y
back_first_selection t ts y h =
    let n = taken_off t ts y (selection_move t.kind) MoreSelections h in
    let s = back_selection t ts n.0 t.kind refl n.1 in
    (_, _, _, selection n.0 s.2 n.2.1)

more_go_on : (t : Lexeme) (ts y : Tokens) (k : Kind) → After (behind (selection_move k) MoreSelections) t ts y → After (selections_move k) t ts y
more_go_on t ts y kind.BraceClose h = absurd h
more_go_on t ts y _ h = h

pub forth_more_selections : (t : Lexeme) (ts y : Tokens) → Means MoreSelections (t ∷ ts) y → Next MoreSelections t ts y
forth_more_selections t ts y (ss, set_closed p) = let e = punctuator p in at_kind t ts y MoreSelections kind.BraceClose e.0 (sym e.1)
forth_more_selections t ts y (ss, selection a s i) = more_go_on t ts y t.kind (forth_first_selection t ts y (_, _, _, selection a s i))

pub back_more_selections : (t : Lexeme) (ts y : Tokens) (k : Kind) → t.kind ≡ k → (After (behind (selection_move k) MoreSelections) t ts y → Means FirstSelection (t ∷ ts) y) → After (selections_move k) t ts y → Means MoreSelections (t ∷ ts) y
back_more_selections t ts y kind.BraceClose e g h = subst (Means MoreSelections (t ∷ ts)) h (_, set_closed (here e))
back_more_selections t ts y _ e g h = let n = g h in (_, n.3)

-- behind the dots
dots_at : (t : Lexeme) (ts y : Tokens) (k : Kind) → t.kind ≡ k → After (dots_move k (word_of t.text)) t ts y → Next AfterDots t ts y
dots_at t ts y k e h = at_kind t ts y AfterDots k e h

forth_spread : {n : NameOf Span} {ds : List (DirectiveOf Span)} (t : Lexeme) (ts b y : Tokens) → IsFragmentName n (t ∷ ts) b → IsDirectives false ds b y → Next AfterDots t ts y
forth_spread t ts b y n j =
    let e = spelled n.is_name in
    let f : word_of t.text ≢ word.On = λ q. n.not_on (e.2 ∙ spells t.text word.On tt q) in
    dots_at t ts y kind.Name e.0 (by_move t ts y (TakesThen (Directives false)) (dots_word_move (word_of t.text)) (no_on (word_of t.text) f) (subst (λ (x : Tokens). Means (Directives false) x y) e.1 (_, j)))
  where
    no_on : (w : Word) → w ≢ word.On → dots_word_move w ≡ TakesThen (Directives false)
    no_on word.On m = absurd (m refl)
    no_on _ m = refl

forth_inline : {on : Option (NameOf Span)} {ds : List (DirectiveOf Span)} {ss : Sels Span} (t : Lexeme) (ts b c y : Tokens) → IsOptionalCondition on (t ∷ ts) b → IsDirectives false ds b c → IsSelectionSet ss c y → Next AfterDots t ts y
forth_inline t ts b c y (a_condition o) j s =
    let e = spelled o.begins in
    at_word t ts y AfterDots kind.Name word.On e.0 (keyword_is t.text word.On tt (sym e.2)) (b, c, subst (λ (x : Tokens). Means AnyName x b) e.1 (_, o.names), (_, j), (_, s))
forth_inline t ts b c y (no_condition n) (a_directive d f g p h i j) s =
    let e = punctuator p in
    dots_at t ts y kind.At e.0 (f, g, c, subst (λ (x : Tokens). Means AnyName x f) e.1 (_, h), (_, i), (_, j), (_, s))
forth_inline t ts b c y (no_condition n) (no_directive m) (braces a p h) =
    let e = punctuator p in
    dots_at t ts y kind.BraceOpen e.0 (subst (λ (x : Tokens). Means FirstSelection x y) e.1 (_, _, _, h))

forth_after : {h : Head Span} {below : Sels Span} (t : Lexeme) (ts before y : Tokens) → IsSelection h below before y → IsPunctuator kind.Spread before (t ∷ ts) → Next AfterDots t ts y
forth_after t ts before y (a_field a b c n i j s) p = absurd (no_field n p)
forth_after t ts before y (a_spread {name = name} a b q n j) p = forth_spread t ts b y (subst (λ (x : Tokens). IsFragmentName name x b) (same_rest q p) n) j
forth_after t ts before y (an_inline {on = on} a b c q o j s) p = forth_inline t ts b c y (subst (λ (x : Tokens). IsOptionalCondition on x b) (same_rest q p) o) j s

pub forth_after_dots : (t : Lexeme) (ts y : Tokens) → Means AfterDots (t ∷ ts) y → Next AfterDots t ts y
forth_after_dots t ts y (before, h, below, s, p) = forth_after t ts before y s p

-- some dots
abbrev dots : Lexeme
dots = record { kind = kind.Spread; text = []; span = record { start = 0; end = 0 } }

with_dots : {h : Head Span} {below : Sels Span} (x y : Tokens) → IsSelection h below (dots ∷ x) y → Means AfterDots x y
with_dots x y s = (dots ∷ x, _, _, s, here refl)

back_dots_word : (t : Lexeme) (ts y : Tokens) (w : Word) → t.kind ≡ kind.Name → word_of t.text ≡ w → After (dots_word_move w) t ts y → Means AfterDots (t ∷ ts) y
back_dots_word t ts y word.On e f (m, n, a, b, c) =
    with_dots (t ∷ ts) y (an_inline (t ∷ ts) m n (here refl) (a_condition (record { keyword = t.span; behind = ts; begins = keyword_here (codes "on") e (sym (spells t.text word.On tt f)); names = a.1 })) b.1 c.1)
back_dots_word t ts y _ e f h =
    with_dots (t ∷ ts) y (a_spread (t ∷ ts) ts (here refl) (record { is_name = name_here e; not_on = λ q. let r = keyword_is t.text word.On tt q in cc }) h.1)

pub back_after_dots : (t : Lexeme) (ts y : Tokens) (k : Kind) → t.kind ≡ k → After (dots_move k (word_of t.text)) t ts y → Means AfterDots (t ∷ ts) y
back_after_dots t ts y kind.Name e h = back_dots_word t ts y (word_of t.text) e refl h
back_after_dots t ts y kind.At e (m, n, o, a, b, c, d) =
    with_dots (t ∷ ts) y (an_inline (t ∷ ts) (t ∷ ts) o (here refl) (no_condition (λ q. cc)) (a_directive ts m n (here e) a.1 b.1 c.1) d.1)
back_after_dots t ts y kind.BraceOpen e h =
    let s = set_here t ts y e h in
    with_dots (t ∷ ts) y (an_inline (t ∷ ts) (t ∷ ts) (t ∷ ts) (here refl) (no_condition (λ q. cc)) (no_directive (λ q. cc)) s.1)
back_after_dots t ts y _ e h = absurd h

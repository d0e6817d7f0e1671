-- Rows of parts between two punctuators, and what an extension has of them.
use Rattle.std.proofs.Common.{◌≡◌, ◌≢◌, List, [], ◌∷◌, Bool, true, false, refl, ap, sym, subst, inl, inr, ◌∙◌, cond}
use Rattle.gq_lex.specs.declared.token.Kind.{Kind}
use Rattle.gq_lex.specs.declared.token.Kind.TheVariants as kind
use Rattle.gq_lex.specs.Tokens.{Lexeme}
use Rattle.gq_parse.specs.Grammar.{Tokens, closed, another, absent, enclosed, no_directive, a_directive}
use Rattle.gq_parse.specs.Helping.Words.{word_of}
use Rattle.gq_parse.specs.declared.expected.Word.{Word}
use Rattle.gq_parse.specs.declared.expected.Row.{Row}
use Rattle.gq_parse.specs.declared.expected.Row.TheVariants.{Arguments, Variables, ArgumentDefinitions, InputFields, Fields, EnumValues, Roots}
use Rattle.gq_parse.specs.declared.expected.Symbol.{Symbol}
use Rattle.gq_parse.specs.declared.expected.Symbol.TheVariants.{AnyName, OptionalRow, WholeRow, FirstOf, MoreOf, PartsWith}
use Rattle.gq_parse.specs.declared.expected.Move.{Move}
use Rattle.gq_parse.specs.declared.expected.Move.TheVariants.{Takes, TakesThen, Skips, Stops}
use Rattle.gq_parse.specs.Helping.Expected.{behind, part_move, in_parens, opening, closing, opens, closes, row_move, more_move, parts_move}
use Rattle.gq_parse.proofs.Means.{PartOf, IsRow, Means, After, Next, punctuator, here, at_kind, by_move, put_behind, taken_off}
use Rattle.gq_parse.proofs.NextParts.{forth_part, back_part, part_goes_on}

-- the tests of punctuators
opens_at : (b : Bool) (k : Kind) → k ≡ opening b → opens b k ≡ true
opens_at true k e = ap (opens true) e
opens_at false k e = ap (opens false) e

opens_not : (b : Bool) (k : Kind) → k ≢ opening b → opens b k ≡ false
opens_not true kind.ParenOpen n = absurd (n refl)
opens_not false kind.BraceOpen n = absurd (n refl)
opens_not true _ n = refl
opens_not false _ n = refl

opens_then : (b : Bool) (k : Kind) → opens b k ≡ true → k ≡ opening b
opens_then true kind.ParenOpen e = refl
opens_then false kind.BraceOpen e = refl
opens_then true _ e = absurd (cc)
opens_then false _ e = absurd (cc)

opens_else : (b : Bool) (k : Kind) → opens b k ≡ false → k ≢ opening b
opens_else b k e f = let g = opens_at b k f in cc

closes_at : (b : Bool) (k : Kind) → k ≡ closing b → closes b k ≡ true
closes_at true k e = ap (closes true) e
closes_at false k e = ap (closes false) e

closes_then : (b : Bool) (k : Kind) → closes b k ≡ true → k ≡ closing b
closes_then true kind.ParenClose e = refl
closes_then false kind.BraceClose e = refl
closes_then true _ e = absurd (cc)
closes_then false _ e = absurd (cc)

-- no part begins with the closing punctuator
closing_stops : (r : Row) (w : Word) → part_move r (closing (in_parens r)) w ≡ Stops
closing_stops (Arguments c) w = refl
closing_stops Variables w = refl
closing_stops ArgumentDefinitions w = refl
closing_stops InputFields w = refl
closing_stops Fields w = refl
closing_stops EnumValues w = refl
closing_stops Roots w = refl

-- the parts of a row up to its closing punctuator
pub forth_first : (r : Row) (t : Lexeme) (ts y : Tokens) → Means (FirstOf r) (t ∷ ts) y → Next (FirstOf r) t ts y
forth_first r t ts y (p, ps, another a h i) =
    put_behind t ts a y (part_move r t.kind (word_of t.text)) (MoreOf r) (part_goes_on r t.kind (word_of t.text)) (forth_part r p t ts a h) (ps, i)

pub back_first : (r : Row) (t : Lexeme) (ts y : Tokens) → Next (FirstOf r) t ts y → Means (FirstOf r) (t ∷ ts) y
back_first r t ts y h =
    let n = taken_off t ts y (part_move r t.kind (word_of t.text)) (MoreOf r) h in
    let p = back_part r t ts n.0 n.1 in
    (p.0, n.2.0, another n.0 p.1 n.2.1)

more_by : (r : Row) (k : Kind) (w : Word) (b : Bool) → closes (in_parens r) k ≡ b → more_move r k w ≡ cond b Takes (behind (part_move r k w) (MoreOf r))
more_by r k w b e = ap (λ (x : Bool). cond x Takes (behind (part_move r k w) (MoreOf r))) e

forth_more_test : (r : Row) (t : Lexeme) (ts y : Tokens) (b : Bool) → closes (in_parens r) t.kind ≡ b → Means (FirstOf r) (t ∷ ts) y → Next (MoreOf r) t ts y
forth_more_test r t ts y true e (p, ps, another a h i) =
    absurd (subst (λ (m : Move). After m t ts a) (ap (λ (k : Kind). part_move r k (word_of t.text)) (closes_then (in_parens r) t.kind e) ∙ closing_stops r (word_of t.text)) (forth_part r p t ts a h))
forth_more_test r t ts y false e h =
    by_move t ts y (behind (part_move r t.kind (word_of t.text)) (MoreOf r)) (more_move r t.kind (word_of t.text)) (more_by r t.kind (word_of t.text) false e) (forth_first r t ts y h)

pub forth_more : (r : Row) (t : Lexeme) (ts y : Tokens) → Means (MoreOf r) (t ∷ ts) y → Next (MoreOf r) t ts y
forth_more r t ts y (ps, closed p) =
    let e = punctuator p in
    by_move t ts y Takes (more_move r t.kind (word_of t.text)) (more_by r t.kind (word_of t.text) true (closes_at (in_parens r) t.kind e.0)) (sym e.1)
forth_more r t ts y (ps, another {x = p} {xs = qs} a h i) = forth_more_test r t ts y (closes (in_parens r) t.kind) refl (p, qs, another a h i)

back_more_test : (r : Row) (t : Lexeme) (ts y : Tokens) (b : Bool) → closes (in_parens r) t.kind ≡ b → After (cond b Takes (behind (part_move r t.kind (word_of t.text)) (MoreOf r))) t ts y → Means (MoreOf r) (t ∷ ts) y
back_more_test r t ts y true e h = subst (Means (MoreOf r) (t ∷ ts)) h ([], closed (here (closes_then (in_parens r) t.kind e)))
back_more_test r t ts y false e h = let n = back_first r t ts y h in (_, n.2)

pub back_more : (r : Row) (t : Lexeme) (ts y : Tokens) → Next (MoreOf r) t ts y → Means (MoreOf r) (t ∷ ts) y
back_more r t ts y h = back_more_test r t ts y (closes (in_parens r) t.kind) refl h

-- whole rows
row_by : (r : Row) (k : Kind) (m : Move) (b : Bool) → opens (in_parens r) k ≡ b → row_move r k m ≡ cond b (TakesThen (FirstOf r)) m
row_by r k m b e = ap (λ (x : Bool). cond x (TakesThen (FirstOf r)) m) e

forth_some : (r : Row) (p : PartOf r) (ps : List (PartOf r)) (m : Move) (t : Lexeme) (ts y : Tokens) → IsRow r (p ∷ ps) (t ∷ ts) y → After (row_move r t.kind m) t ts y
forth_some r p ps m t ts y (enclosed a q h) =
    let e = punctuator q in
    by_move t ts y (TakesThen (FirstOf r)) (row_move r t.kind m) (row_by r t.kind m true (opens_at (in_parens r) t.kind e.0)) (subst (λ (x : Tokens). Means (FirstOf r) x y) e.1 (p, ps, h))

back_some : (r : Row) (t : Lexeme) (ts y : Tokens) → opens (in_parens r) t.kind ≡ true → Means (FirstOf r) ts y → Means (WholeRow r) (t ∷ ts) y
back_some r t ts y e (p, ps, h) = (p, ps, enclosed ts (here (opens_then (in_parens r) t.kind e)) h)

pub forth_optional_row : (r : Row) (t : Lexeme) (ts y : Tokens) → Means (OptionalRow r) (t ∷ ts) y → Next (OptionalRow r) t ts y
forth_optional_row r t ts y ([], absent n) =
    by_move t ts y Skips (row_move r t.kind Skips) (row_by r t.kind Skips false (opens_not (in_parens r) t.kind n)) refl
forth_optional_row r t ts y (p ∷ ps, h) = forth_some r p ps Skips t ts y h

back_optional_test : (r : Row) (t : Lexeme) (ts y : Tokens) (b : Bool) → opens (in_parens r) t.kind ≡ b → After (cond b (TakesThen (FirstOf r)) Skips) t ts y → Means (OptionalRow r) (t ∷ ts) y
back_optional_test r t ts y true e h = let n = back_some r t ts y e h in (n.0 ∷ n.1, n.2)
back_optional_test r t ts y false e h = subst (Means (OptionalRow r) (t ∷ ts)) h ([], absent (opens_else (in_parens r) t.kind e))

pub back_optional_row : (r : Row) (t : Lexeme) (ts y : Tokens) → Next (OptionalRow r) t ts y → Means (OptionalRow r) (t ∷ ts) y
back_optional_row r t ts y h = back_optional_test r t ts y (opens (in_parens r) t.kind) refl h

pub forth_whole_row : (r : Row) (t : Lexeme) (ts y : Tokens) → Means (WholeRow r) (t ∷ ts) y → Next (WholeRow r) t ts y
forth_whole_row r t ts y (p, ps, h) = forth_some r p ps Stops t ts y h

back_whole_test : (r : Row) (t : Lexeme) (ts y : Tokens) (b : Bool) → opens (in_parens r) t.kind ≡ b → After (cond b (TakesThen (FirstOf r)) Stops) t ts y → Means (WholeRow r) (t ∷ ts) y
back_whole_test r t ts y true e h = back_some r t ts y e h
back_whole_test r t ts y false e h = absurd h

pub back_whole_row : (r : Row) (t : Lexeme) (ts y : Tokens) → Next (WholeRow r) t ts y → Means (WholeRow r) (t ∷ ts) y
back_whole_row r t ts y h = back_whole_test r t ts y (opens (in_parens r) t.kind) refl h

-- directives and a row, at least one of the two
opening_parts : (b : Bool) (s : Symbol) (m : Move) → parts_move (opening b) s m ≡ m
opening_parts true s m = refl
opening_parts false s m = refl

pub forth_parts : (r : Row) (t : Lexeme) (ts y : Tokens) → Means (PartsWith r) (t ∷ ts) y → Next (PartsWith r) t ts y
forth_parts r t ts y (ds, ps, z, a_directive a b c p h i j, row, some) =
    let e = punctuator p in
    at_kind t ts y (PartsWith r) kind.At e.0 (b, c, z, subst (λ (x : Tokens). Means AnyName x b) e.1 (_, h), (_, i), (_, j), (_, row))
forth_parts r t ts y (ds, ps, z, no_directive n, absent m, inl some) = absurd (some refl)
forth_parts r t ts y (ds, ps, z, no_directive n, absent m, inr some) = absurd (some refl)
forth_parts r t ts y (ds, ps, z, no_directive n, enclosed {x = p} {xs = qs} a q h, some) =
    let e = punctuator q in
    by_move t ts y (row_move r t.kind Stops) (parts_move t.kind (OptionalRow r) (row_move r t.kind Stops)) (subst (λ (k : Kind). parts_move k (OptionalRow r) (row_move r k Stops) ≡ row_move r k Stops) (sym e.0) (opening_parts (in_parens r) (OptionalRow r) (row_move r (opening (in_parens r)) Stops))) (forth_some r p qs Stops t ts y (enclosed a q h))

pub back_parts : (r : Row) (t : Lexeme) (ts y : Tokens) (k : Kind) → t.kind ≡ k → (After (row_move r k Stops) t ts y → Means (WholeRow r) (t ∷ ts) y) → After (parts_move k (OptionalRow r) (row_move r k Stops)) t ts y → Means (PartsWith r) (t ∷ ts) y
back_parts r t ts y kind.At e g (m, n, o, a, b, c, d) = (_, _, o, a_directive ts m n (here e) a.1 b.1 c.1, d.1, inl (λ q. cc))
back_parts r t ts y _ e g h = let n = g h in ([], n.0 ∷ n.1, t ∷ ts, no_directive (λ q. cc), n.2, inr (λ q. cc))

pub back_parts_with : (r : Row) (t : Lexeme) (ts y : Tokens) → Next (PartsWith r) t ts y → Means (PartsWith r) (t ∷ ts) y
back_parts_with r t ts y h = back_parts r t ts y t.kind refl (back_whole_row r t ts y) h

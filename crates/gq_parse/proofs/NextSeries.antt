-- Series of parts with a punctuator between each two.
use Rattle.std.proofs.Common.{◌≡◌, ◌≢◌, List, ◌∷◌, Bool, true, false, refl, ap, sym, subst, inl, inr, cond}
use Rattle.gq_lex.specs.declared.token.Kind.{Kind}
use Rattle.gq_lex.specs.declared.token.Kind.TheVariants as kind
use Rattle.gq_lex.specs.Tokens.{Lexeme}
use Rattle.gq_parse.specs.Grammar.{Tokens, IsPunctuator, NotNext}
use Rattle.gq_parse.specs.Helping.Words.{word_of}
use Rattle.gq_parse.specs.declared.expected.Word.{Word}
use Rattle.gq_parse.specs.declared.expected.Word.TheVariants as word
use Rattle.gq_parse.specs.declared.expected.Series.{Series}
use Rattle.gq_parse.specs.declared.expected.Series.TheVariants.{Interfaces, Members, Locations}
use Rattle.gq_parse.specs.declared.expected.Symbol.TheVariants.{LedSeries, SeriesPart, MoreParts}
use Rattle.gq_parse.specs.declared.expected.Move.{Move}
use Rattle.gq_parse.specs.declared.expected.Move.TheVariants.{TakesThen, Skips}
use Rattle.gq_parse.specs.Helping.Expected.{name_move, separates, location_move, series_word_move, separator_move}
use Rattle.gq_parse.proofs.Means.{PieceOf, IsPieceOf, separator, Means, After, Next, punctuator, spelled, here, name_here, at_kind, at_word, by_move}
use Rattle.gq_tree.specs.declared.type_system.DirectiveLocation.{DirectiveLocation}
use Rattle.gq_parse.specs.TypeSystem.{Separated, last, next, plain, led, IsLocation, a_location}
use Rattle.gq_parse.proofs.WordsAre.{located, location_is}

separates_at : (s : Series) (k : Kind) → k ≡ separator s → separates s k ≡ true
separates_at Interfaces k e = ap (separates Interfaces) e
separates_at Members k e = ap (separates Members) e
separates_at Locations k e = ap (separates Locations) e

separates_not : (s : Series) (k : Kind) → k ≢ separator s → separates s k ≡ false
separates_not Interfaces kind.Ampersand n = absurd (n refl)
separates_not Members kind.Pipe n = absurd (n refl)
separates_not Locations kind.Pipe n = absurd (n refl)
separates_not Interfaces _ n = refl
separates_not Members _ n = refl
separates_not Locations _ n = refl

separates_then : (s : Series) (k : Kind) → separates s k ≡ true → k ≡ separator s
separates_then Interfaces kind.Ampersand e = refl
separates_then Members kind.Pipe e = refl
separates_then Locations kind.Pipe e = refl
separates_then Interfaces _ e = absurd (cc)
separates_then Members _ e = absurd (cc)
separates_then Locations _ e = absurd (cc)

separates_else : (s : Series) (k : Kind) → separates s k ≡ false → k ≢ separator s
separates_else s k e f = let g = separates_at s k f in cc

-- one part, and what is left behind it
forth_piece : (s : Series) (p : PieceOf s) (t : Lexeme) (ts a y : Tokens) → IsPieceOf s p (t ∷ ts) a → Means (MoreParts s) a y → After (name_move t.kind (series_word_move s (word_of t.text))) t ts y
forth_piece Interfaces p t ts a y h m = let e = spelled h in at_kind t ts y (SeriesPart Interfaces) kind.Name e.0 (subst (λ (x : Tokens). Means (MoreParts Interfaces) x y) e.1 m)
forth_piece Members p t ts a y h m = let e = spelled h in at_kind t ts y (SeriesPart Members) kind.Name e.0 (subst (λ (x : Tokens). Means (MoreParts Members) x y) e.1 m)
forth_piece Locations p t ts a y (a_location h) m =
    let e = spelled h in
    at_word t ts y (SeriesPart Locations) kind.Name word.Location e.0 (location_is t.text p (sym e.2)) (subst (λ (x : Tokens). Means (MoreParts Locations) x y) e.1 m)

back_location : (t : Lexeme) (ts y : Tokens) (w : Word) → t.kind ≡ kind.Name → word_of t.text ≡ w → After (location_move w) t ts y → (p : DirectiveLocation) × IsLocation p (t ∷ ts) ts × Means (MoreParts Locations) ts y
back_location t ts y word.Location e f h = let l = located t.text f in (l.0, a_location (record { token = t; first = refl; kind = e; spelling = sym l.1; span = refl }), h)
back_location t ts y _ e f h = absurd h

back_piece : (s : Series) (t : Lexeme) (ts y : Tokens) → t.kind ≡ kind.Name → After (series_word_move s (word_of t.text)) t ts y → (p : PieceOf s) × IsPieceOf s p (t ∷ ts) ts × Means (MoreParts s) ts y
back_piece Interfaces t ts y e h = (_, name_here e, h)
back_piece Members t ts y e h = (_, name_here e, h)
back_piece Locations t ts y e h = back_location t ts y (word_of t.text) e refl h

forth_separated : (s : Series) {ps : List (PieceOf s)} (t : Lexeme) (ts y : Tokens) → Separated (IsPieceOf s) (separator s) ps (t ∷ ts) y → After (name_move t.kind (series_word_move s (word_of t.text))) t ts y
forth_separated s t ts y (last {x = p} h n) = forth_piece s p t ts y y h (inl (n, refl))
forth_separated s t ts y (next {x = p} {xs = qs} a b h q i) = forth_piece s p t ts a y h (inr (qs, b, q, i))

back_separated : (s : Series) (t : Lexeme) (ts y : Tokens) (k : Kind) → t.kind ≡ k → After (name_move k (series_word_move s (word_of t.text))) t ts y → Means (SeriesPart s) (t ∷ ts) y
back_separated s t ts y kind.Name e h = let p = back_piece s t ts y e h in join s p.0 (t ∷ ts) ts y p.1 p.2
  where
    join : (s : Series) (p : PieceOf s) (x a y : Tokens) → IsPieceOf s p x a → Means (MoreParts s) a y → Means (SeriesPart s) x y
    join s p x a y h (inl (n, f)) = (_, last (subst (IsPieceOf s p x) f h) (subst (NotNext (separator s)) f n))
    join s p x a y h (inr (qs, b, q, i)) = (_, next a b h q i)
back_separated s t ts y _ e h = absurd h

pub forth_series_part : (s : Series) (t : Lexeme) (ts y : Tokens) → Means (SeriesPart s) (t ∷ ts) y → Next (SeriesPart s) t ts y
forth_series_part s t ts y (ps, h) = forth_separated s t ts y h

pub back_series_part : (s : Series) (t : Lexeme) (ts y : Tokens) → Next (SeriesPart s) t ts y → Means (SeriesPart s) (t ∷ ts) y
back_series_part s t ts y h = back_separated s t ts y t.kind refl h

-- behind a part, and before the first one
separator_by : (s : Series) (k : Kind) (m : Move) (b : Bool) → separates s k ≡ b → separator_move s k m ≡ cond b (TakesThen (SeriesPart s)) m
separator_by s k m b e = ap (λ (x : Bool). cond x (TakesThen (SeriesPart s)) m) e

forth_separator : (s : Series) (t : Lexeme) (ts y a : Tokens) (m : Move) → IsPunctuator (separator s) (t ∷ ts) a → Means (SeriesPart s) a y → After (separator_move s t.kind m) t ts y
forth_separator s t ts y a m p h =
    let e = punctuator p in
    by_move t ts y (TakesThen (SeriesPart s)) (separator_move s t.kind m) (separator_by s t.kind m true (separates_at s t.kind e.0)) (subst (λ (x : Tokens). Means (SeriesPart s) x y) e.1 h)

pub forth_more_parts : (s : Series) (t : Lexeme) (ts y : Tokens) → Means (MoreParts s) (t ∷ ts) y → Next (MoreParts s) t ts y
forth_more_parts s t ts y (inl (n, e)) = by_move t ts y Skips (separator_move s t.kind Skips) (separator_by s t.kind Skips false (separates_not s t.kind n)) e
forth_more_parts s t ts y (inr (ps, b, p, h)) = forth_separator s t ts y b Skips p (ps, h)

back_more_test : (s : Series) (t : Lexeme) (ts y : Tokens) (b : Bool) → separates s t.kind ≡ b → After (cond b (TakesThen (SeriesPart s)) Skips) t ts y → Means (MoreParts s) (t ∷ ts) y
back_more_test s t ts y true e h = inr (h.0, ts, here (separates_then s t.kind e), h.1)
back_more_test s t ts y false e h = inl (separates_else s t.kind e, h)

pub back_more_parts : (s : Series) (t : Lexeme) (ts y : Tokens) → Next (MoreParts s) t ts y → Means (MoreParts s) (t ∷ ts) y
back_more_parts s t ts y h = back_more_test s t ts y (separates s t.kind) refl h

pub forth_led : (s : Series) (t : Lexeme) (ts y : Tokens) → Means (LedSeries s) (t ∷ ts) y → Next (LedSeries s) t ts y
forth_led s t ts y (ps, plain n h) =
    let m = name_move t.kind (series_word_move s (word_of t.text)) in
    by_move t ts y m (separator_move s t.kind m) (separator_by s t.kind m false (separates_not s t.kind n)) (forth_separated s t ts y h)
forth_led s t ts y (ps, led a p h) = forth_separator s t ts y a (name_move t.kind (series_word_move s (word_of t.text))) p (ps, h)

back_led_test : (s : Series) (t : Lexeme) (ts y : Tokens) (b : Bool) → separates s t.kind ≡ b → After (cond b (TakesThen (SeriesPart s)) (name_move t.kind (series_word_move s (word_of t.text)))) t ts y → Means (LedSeries s) (t ∷ ts) y
back_led_test s t ts y true e h = (h.0, led ts (here (separates_then s t.kind e)) h.1)
back_led_test s t ts y false e h = let n = back_series_part s t ts y h in (n.0, plain (separates_else s t.kind e) n.1)

pub back_led : (s : Series) (t : Lexeme) (ts y : Tokens) → Next (LedSeries s) t ts y → Means (LedSeries s) (t ∷ ts) y
back_led s t ts y h = back_led_test s t ts y (separates s t.kind) refl h

-- What types, unions and directive definitions have behind their names.
use Rattle.std.proofs.Common.{◌≡◌, ◌≢◌, List, [], ◌∷◌, true, refl, ap, sym, subst, ◌⊎◌, inl, inr, ◌∙◌}
use Rattle.std.specs.Prelude.{codes}
use Rattle.gq_text.specs.declared.place.Span.{Span}
use Rattle.gq_lex.specs.declared.token.Kind.{Kind}
use Rattle.gq_lex.specs.declared.token.Kind.TheVariants as kind
use Rattle.gq_lex.specs.Tokens.{Lexeme}
use Rattle.gq_tree.specs.Plain.{NameOf}
use Rattle.gq_parse.specs.Grammar.{Tokens, IsPunctuator, IsName, IsKeyword, no_directive, a_directive}
use Rattle.gq_parse.specs.Helping.Words.{word_of, spelling}
use Rattle.gq_parse.specs.declared.expected.Word.{Word}
use Rattle.gq_parse.specs.declared.expected.Word.TheVariants as word
use Rattle.gq_parse.specs.declared.expected.Row.TheVariants.{Fields}
use Rattle.gq_parse.specs.declared.expected.Series.TheVariants.{Interfaces, Members}
use Rattle.gq_parse.specs.declared.expected.Symbol.TheVariants.{AnyName, OnWord, Directives, OptionalRow, PartsWith, LedSeries, TypeParts, UnionParts, OptionalImplements, OptionalMembers, OptionalRepeatable}
use Rattle.gq_parse.specs.declared.expected.Move.{Move}
use Rattle.gq_parse.specs.declared.expected.Move.TheVariants.{TakesThen, TakesThenThree, Skips, Stops}
use Rattle.gq_parse.specs.Helping.Expected.{name_move, implements_move, optional_implements_move, members_move, repeatable_move, type_parts_move, parts_move, row_move}
use Rattle.gq_parse.proofs.Means.{Means, After, Next, punctuator, spelled, here, keyword_here, at_kind, at_word, by_move}
use Rattle.gq_parse.specs.TypeSystem.{Separated, last, next, Delimited, plain, led, NotWord, no_interfaces, interfaces, no_members, members, once, repeatable}
use Rattle.gq_parse.proofs.WordsAre.{IsPlain, spells, keyword_is}
use Rattle.gq_parse.proofs.NextRows.{forth_parts}

-- a keyword at the front
pub keyword : (w : Word) → IsPlain w → {place : Span} {t : Lexeme} {ts a : Tokens} → IsKeyword (spelling w) place (t ∷ ts) a → (t.kind ≡ kind.Name) × (a ≡ ts) × (word_of t.text ≡ w)
keyword w p {t = t} h = let e = spelled h in (e.0, e.1, keyword_is t.text w p (sym e.2))

pub is_keyword : (w : Word) → IsPlain w → (t : Lexeme) (ts : Tokens) → t.kind ≡ kind.Name → word_of t.text ≡ w → IsKeyword (spelling w) t.span (t ∷ ts) ts
is_keyword w p t ts e f = keyword_here (spelling w) e (sym (spells t.text w p f))

-- ImplementsInterfaces?
implements_not : (w : Word) (m n : Move) → w ≢ word.Implements → implements_move w m n ≡ n
implements_not word.Implements m n h = absurd (h refl)
implements_not _ m n h = refl

skips_implements : (k : Kind) (w : Word) → (k ≡ kind.Name → w ≢ word.Implements) → optional_implements_move k w ≡ Skips
skips_implements kind.Name w h = implements_not w (TakesThen (LedSeries Interfaces)) Skips (h refl)
skips_implements _ w h = refl

pub forth_implements : (t : Lexeme) (ts y : Tokens) → Means OptionalImplements (t ∷ ts) y → Next OptionalImplements t ts y
forth_implements t ts y (is, no_interfaces n) =
    by_move t ts y Skips (optional_implements_move t.kind (word_of t.text)) (skips_implements t.kind (word_of t.text) (λ e f. n e (spells t.text word.Implements tt f))) refl
forth_implements t ts y (is, interfaces a h l) =
    let e = keyword word.Implements tt h in
    at_word t ts y OptionalImplements kind.Name word.Implements e.0 e.2 (subst (λ (x : Tokens). Means (LedSeries Interfaces) x y) e.1 (_, l))

no_implements : (t : Lexeme) (ts y : Tokens) (k : Kind) → t.kind ≡ k → (k ≡ kind.Name → word_of t.text ≢ word.Implements) → NotWord (codes "implements") (t ∷ ts)
no_implements t ts y k e n f g = n (sym e ∙ f) (keyword_is t.text word.Implements tt g)

back_implements_word : (t : Lexeme) (ts y : Tokens) (w : Word) → t.kind ≡ kind.Name → word_of t.text ≡ w → After (implements_move w (TakesThen (LedSeries Interfaces)) Skips) t ts y → Means OptionalImplements (t ∷ ts) y
back_implements_word t ts y word.Implements e f h = (_, interfaces ts (is_keyword word.Implements tt t ts e f) h.1)
back_implements_word t ts y _ e f h = subst (Means OptionalImplements (t ∷ ts)) h (_, no_interfaces (no_implements t ts y kind.Name e (λ p q. cc)))

pub back_implements : (t : Lexeme) (ts y : Tokens) (k : Kind) → t.kind ≡ k → After (optional_implements_move k (word_of t.text)) t ts y → Means OptionalImplements (t ∷ ts) y
back_implements t ts y kind.Name e h = back_implements_word t ts y (word_of t.text) e refl h
back_implements t ts y k e h = subst (Means OptionalImplements (t ∷ ts)) h (_, no_interfaces (no_implements t ts y k e (λ p q. cc)))

-- UnionMemberTypes?
forth_some_members : {names : List (NameOf Span)} (t : Lexeme) (ts a y : Tokens) (m : Move) → IsPunctuator kind.Equals (t ∷ ts) a → Delimited IsName kind.Pipe names a y → After (members_move t.kind m) t ts y
forth_some_members t ts a y m p h =
    let e = punctuator p in
    by_move t ts y (TakesThen (LedSeries Members)) (members_move t.kind m) (ap (λ (k : Kind). members_move k m) e.0) (subst (λ (x : Tokens). Means (LedSeries Members) x y) e.1 (_, h))

pub forth_members : (t : Lexeme) (ts y : Tokens) → Means OptionalMembers (t ∷ ts) y → Next OptionalMembers t ts y
forth_members t ts y (names, no_members n) = by_move t ts y Skips (members_move t.kind Skips) (skips t.kind n) refl
  where
    skips : (k : Kind) → k ≢ kind.Equals → members_move k Skips ≡ Skips
    skips kind.Equals n = absurd (n refl)
    skips _ n = refl
forth_members t ts y (names, members a p h) = forth_some_members t ts a y Skips p h

pub back_members : (t : Lexeme) (ts y : Tokens) (k : Kind) → t.kind ≡ k → After (members_move k Skips) t ts y → Means OptionalMembers (t ∷ ts) y
back_members t ts y kind.Equals e h = (_, members ts (here e) h.1)
back_members t ts y _ e h = subst (Means OptionalMembers (t ∷ ts)) h (_, no_members (λ q. cc))

-- a series has a part
some_separated : {A : Type 0} {X : A → Tokens → Tokens → Type 0} {k : Kind} {ps : List A} {x y : Tokens} → Separated X k ps x y → ps ≢ []
some_separated (last h n) e = absurd (cc)
some_separated (next a b h p i) e = absurd (cc)

some_led : {A : Type 0} {X : A → Tokens → Tokens → Type 0} {k : Kind} {ps : List A} {x y : Tokens} → Delimited X k ps x y → ps ≢ []
some_led (plain n h) = some_separated h
some_led (led a p h) = some_separated h

-- the parts of an extended union
pub forth_union_parts : (t : Lexeme) (ts y : Tokens) → Means UnionParts (t ∷ ts) y → Next UnionParts t ts y
forth_union_parts t ts y (ds, names, z, a_directive a b c p h i j, m, some) =
    let e = punctuator p in
    at_kind t ts y UnionParts kind.At e.0 (b, c, z, subst (λ (x : Tokens). Means AnyName x b) e.1 (_, h), (_, i), (_, j), (_, m))
forth_union_parts t ts y (ds, names, z, no_directive n, no_members m, inl some) = absurd (some refl)
forth_union_parts t ts y (ds, names, z, no_directive n, no_members m, inr some) = absurd (some refl)
forth_union_parts t ts y (ds, names, z, no_directive n, members a p h, some) =
    let e = punctuator p in
    at_kind t ts y UnionParts kind.Equals e.0 (subst (λ (x : Tokens). Means (LedSeries Members) x y) e.1 (_, h))

pub back_union_parts : (t : Lexeme) (ts y : Tokens) (k : Kind) → t.kind ≡ k → After (parts_move k OptionalMembers (members_move k Stops)) t ts y → Means UnionParts (t ∷ ts) y
back_union_parts t ts y kind.At e (m, n, o, a, b, c, d) = (_, _, o, a_directive ts m n (here e) a.1 b.1 c.1, d.1, inl (λ q. cc))
back_union_parts t ts y kind.Equals e h = ([], h.0, t ∷ ts, no_directive (λ q. cc), members ts (here e) h.1, inr (some_led h.1))
back_union_parts t ts y _ e h = absurd h

-- the parts of an extended type with fields
no_parts_at_name : (t : Lexeme) (ts y : Tokens) (k : Kind) (w : Word) → After (parts_move k (OptionalRow Fields) (row_move Fields k Stops)) t ts y → After (type_parts_move k w) t ts y
no_parts_at_name t ts y kind.Name w h = absurd h
no_parts_at_name t ts y _ w h = h

without : {A B C : Type 0} → (A → ⊥) → B ⊎ (A ⊎ C) → B ⊎ C
without f (inl b) = inl b
without f (inr (inl a)) = absurd (f a)
without f (inr (inr c)) = inr c

pub forth_type_parts : (t : Lexeme) (ts y : Tokens) → Means TypeParts (t ∷ ts) y → Next TypeParts t ts y
forth_type_parts t ts y (is, ds, fields, a, b, no_interfaces n, h, i, some) =
    no_parts_at_name t ts y t.kind (word_of t.text) (forth_parts Fields t ts y (ds, fields, b, h, i, without (λ f. f refl) some))
forth_type_parts t ts y (is, ds, fields, a, b, interfaces c k l, h, i, some) =
    let e = keyword word.Implements tt k in
    at_word t ts y TypeParts kind.Name word.Implements e.0 e.2 (a, b, subst (λ (x : Tokens). Means (LedSeries Interfaces) x a) e.1 (_, l), (_, h), (_, i))

back_type_word : (t : Lexeme) (ts y : Tokens) (w : Word) → t.kind ≡ kind.Name → word_of t.text ≡ w → After (implements_move w (TakesThenThree (LedSeries Interfaces) (Directives true) (OptionalRow Fields)) Stops) t ts y → Means TypeParts (t ∷ ts) y
back_type_word t ts y word.Implements e f (m, n, l, h, i) =
    (_, _, _, m, n, interfaces ts (is_keyword word.Implements tt t ts e f) l.1, h.1, i.1, inr (inl (some_led l.1)))
back_type_word t ts y _ e f h = absurd h

with_none : {A B C : Type 0} → B ⊎ C → B ⊎ (A ⊎ C)
with_none (inl b) = inl b
with_none (inr c) = inr (inr c)

pub back_type_parts : (t : Lexeme) (ts y : Tokens) (k : Kind) → t.kind ≡ k → (After (parts_move k (OptionalRow Fields) (row_move Fields k Stops)) t ts y → Means (PartsWith Fields) (t ∷ ts) y) → After (type_parts_move k (word_of t.text)) t ts y → Means TypeParts (t ∷ ts) y
back_type_parts t ts y kind.Name e g h = back_type_word t ts y (word_of t.text) e refl h
back_type_parts t ts y k e g h =
    let n = g h in
    ([], n.0, n.1, t ∷ ts, n.2, no_interfaces (no_implements t ts y k e (λ p q. cc)), n.3, n.4, with_none n.5)

-- repeatable? on
pub forth_repeatable : (t : Lexeme) (ts y : Tokens) → Means OptionalRepeatable (t ∷ ts) y → Next OptionalRepeatable t ts y
forth_repeatable t ts y (again, once h) = let e = keyword word.On tt h in at_word t ts y OptionalRepeatable kind.Name word.On e.0 e.2 (sym e.1)
forth_repeatable t ts y (again, repeatable a h i) =
    let e = keyword word.Repeatable tt h in
    at_word t ts y OptionalRepeatable kind.Name word.Repeatable e.0 e.2 (subst (λ (x : Tokens). Means OnWord x y) e.1 (_, i))

back_repeatable_word : (t : Lexeme) (ts y : Tokens) (w : Word) → t.kind ≡ kind.Name → word_of t.text ≡ w → After (repeatable_move w) t ts y → Means OptionalRepeatable (t ∷ ts) y
back_repeatable_word t ts y word.On e f h = subst (Means OptionalRepeatable (t ∷ ts)) h (_, once (is_keyword word.On tt t ts e f))
back_repeatable_word t ts y word.Repeatable e f h = (_, repeatable ts (is_keyword word.Repeatable tt t ts e f) h.1)
back_repeatable_word t ts y _ e f h = absurd h

pub back_repeatable : (t : Lexeme) (ts y : Tokens) (k : Kind) → t.kind ≡ k → After (name_move k (repeatable_move (word_of t.text))) t ts y → Means OptionalRepeatable (t ∷ ts) y
back_repeatable t ts y kind.Name e h = back_repeatable_word t ts y (word_of t.text) e refl h
back_repeatable t ts y _ e h = absurd h

-- Names that are words, or are not.
use Rattle.std.proofs.Common.{◌≡◌, ◌≢◌, List, ◌∷◌, refl, sym, subst, inl, inr, ◌∙◌}
use Rattle.std.specs.Prelude.{codes, ℕ}
use Rattle.gq_lex.specs.declared.token.Kind.{Kind}
use Rattle.gq_lex.specs.declared.token.Kind.TheVariants as kind
use Rattle.gq_lex.specs.Tokens.{Lexeme}
use Rattle.gq_parse.specs.Grammar.{Tokens, IsValueWord}
use Rattle.gq_parse.specs.Helping.Words.{word_of}
use Rattle.gq_parse.specs.declared.expected.Word.{Word}
use Rattle.gq_parse.specs.declared.expected.Word.TheVariants as word
use Rattle.gq_parse.specs.declared.expected.Symbol.TheVariants.{FragmentName, EnumValueName, OnWord}
use Rattle.gq_parse.specs.declared.expected.Move.{Move}
use Rattle.gq_parse.specs.declared.expected.Move.TheVariants.{Takes}
use Rattle.gq_parse.specs.Helping.Expected.{name_move, not_on_move, value_word_stops, on_word_move}
use Rattle.gq_parse.proofs.Means.{Means, After, Next, spelled, name_here, keyword_here, at_kind, at_word, by_move}
use Rattle.gq_parse.proofs.WordsAre.{spells, keyword_is, value_word}

-- FragmentName
not_on_takes : (w : Word) → w ≢ word.On → not_on_move w Takes ≡ Takes
not_on_takes word.On n = absurd (n refl)
not_on_takes _ n = refl

pub forth_fragment_name : (t : Lexeme) (ts y : Tokens) → Means FragmentName (t ∷ ts) y → Next FragmentName t ts y
forth_fragment_name t ts y (n, h) =
    let e = spelled h.is_name in
    let f : word_of t.text ≢ word.On = λ q. h.not_on (e.2 ∙ spells t.text word.On tt q) in
    at_kind t ts y FragmentName kind.Name e.0 (by_move t ts y Takes (not_on_move (word_of t.text) Takes) (not_on_takes (word_of t.text) f) (sym e.1))

back_not_on : (t : Lexeme) (ts y : Tokens) (w : Word) → t.kind ≡ kind.Name → word_of t.text ≡ w → After (not_on_move w Takes) t ts y → Means FragmentName (t ∷ ts) y
back_not_on t ts y word.On e f h = absurd h
back_not_on t ts y _ e f h = subst (Means FragmentName (t ∷ ts)) h (_, record { is_name = name_here e; not_on = λ q. let r = keyword_is t.text word.On tt q in cc })

pub back_fragment_name : (t : Lexeme) (ts y : Tokens) (k : Kind) → t.kind ≡ k → After (name_move k (not_on_move (word_of t.text) Takes)) t ts y → Means FragmentName (t ∷ ts) y
back_fragment_name t ts y kind.Name e h = back_not_on t ts y (word_of t.text) e refl h
back_fragment_name t ts y _ e h = absurd h

-- EnumValue
pub no_value_word : (text : List ℕ) (w : Word) (m : Move) → word_of text ≡ w → (IsValueWord text → ⊥) → value_word_stops w m ≡ m
no_value_word text word.True m e n = absurd (n (inl (spells text word.True tt e)))
no_value_word text word.False m e n = absurd (n (inr (inl (spells text word.False tt e))))
no_value_word text word.Null m e n = absurd (n (inr (inr (spells text word.Null tt e))))
no_value_word text _ m e n = refl

-- where a move is made, it is no such word
pub is_no_value_word : (t : Lexeme) (ts y : Tokens) (w : Word) (m : Move) → word_of t.text ≡ w → After (value_word_stops w m) t ts y → (IsValueWord t.text → ⊥) × After m t ts y
is_no_value_word t ts y word.True m e h = absurd h
is_no_value_word t ts y word.False m e h = absurd h
is_no_value_word t ts y word.Null m e h = absurd h
is_no_value_word t ts y _ m e h = (value_word t.text _ e (λ q. cc) (λ q. cc) (λ q. cc), h)

pub forth_enum_value_name : (t : Lexeme) (ts y : Tokens) → Means EnumValueName (t ∷ ts) y → Next EnumValueName t ts y
forth_enum_value_name t ts y (n, h, v) =
    let e = spelled h in
    at_kind t ts y EnumValueName kind.Name e.0 (by_move t ts y Takes (value_word_stops (word_of t.text) Takes) (no_value_word t.text (word_of t.text) Takes refl (subst (λ (x : List ℕ). IsValueWord x → ⊥) e.2 v)) (sym e.1))

pub back_enum_value_name : (t : Lexeme) (ts y : Tokens) (k : Kind) → t.kind ≡ k → After (name_move k (value_word_stops (word_of t.text) Takes)) t ts y → Means EnumValueName (t ∷ ts) y
back_enum_value_name t ts y kind.Name e h =
    let r = is_no_value_word t ts y (word_of t.text) Takes refl h in
    subst (Means EnumValueName (t ∷ ts)) r.1 (_, name_here e, r.0)
back_enum_value_name t ts y _ e h = absurd h

-- the word `on`
pub forth_on : (t : Lexeme) (ts y : Tokens) → Means OnWord (t ∷ ts) y → Next OnWord t ts y
forth_on t ts y (p, h) = let e = spelled h in at_word t ts y OnWord kind.Name word.On e.0 (keyword_is t.text word.On tt (sym e.2)) (sym e.1)

back_on_word : (t : Lexeme) (ts y : Tokens) (w : Word) → t.kind ≡ kind.Name → word_of t.text ≡ w → After (on_word_move w) t ts y → Means OnWord (t ∷ ts) y
back_on_word t ts y word.On e f h = subst (Means OnWord (t ∷ ts)) h (_, keyword_here (codes "on") e (sym (spells t.text word.On tt f)))
back_on_word t ts y _ e f h = absurd h

pub back_on : (t : Lexeme) (ts y : Tokens) (k : Kind) → t.kind ≡ k → After (name_move k (on_word_move (word_of t.text))) t ts y → Means OnWord (t ∷ ts) y
back_on t ts y kind.Name e h = back_on_word t ts y (word_of t.text) e refl h
back_on t ts y _ e h = absurd h

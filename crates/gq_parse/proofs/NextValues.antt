-- Values.
use Rattle.std.proofs.Common.{◌≡◌, ◌∷◌, Bool, true, false, refl, ap, sym, subst}
use Rattle.std.specs.Prelude.{codes}
use Rattle.gq_lex.specs.declared.token.Kind.{Kind}
use Rattle.gq_lex.specs.declared.token.Kind.TheVariants as kind
use Rattle.gq_lex.specs.Tokens.{Lexeme}
use Rattle.gq_parse.specs.Grammar.{Tokens, IsPunctuator, a_variable, an_int, a_float, a_string, a_block_string, is_true, is_false, is_null, an_enum, a_list, an_object, list_closed, an_item, object_closed, an_object_field}
use Rattle.gq_parse.specs.Helping.Words.{word_of}
use Rattle.gq_parse.specs.declared.expected.Word.{Word}
use Rattle.gq_parse.specs.declared.expected.Word.TheVariants as word
use Rattle.gq_parse.specs.declared.expected.Symbol.TheVariants.{AnyName, Value, MoreValues, MoreObjectFields}
use Rattle.gq_parse.specs.declared.expected.Move.TheVariants.{TakesThen}
use Rattle.gq_parse.specs.Helping.Expected.{behind, value_move, values_move, object_fields_move}
use Rattle.gq_parse.proofs.Means.{Means, After, Next, punctuator, spelled, here, spelled_here, name_here, keyword_here, at_kind, by_move, CanGoOn, put_behind, taken_off}
use Rattle.gq_parse.proofs.WordsAre.{spells, value_word}

pub forth_value : (c : Bool) (t : Lexeme) (ts y : Tokens) → Means (Value c) (t ∷ ts) y → Next (Value c) t ts y
forth_value c t ts y (s, vs, a_variable a free p h) =
    let e = punctuator p in
    at_kind t ts y (Value c) kind.Dollar e.0 (by_move t ts y (TakesThen AnyName) (value_move c kind.Dollar) (ap (λ (b : Bool). value_move b kind.Dollar) free) (subst (λ (x : Tokens). Means AnyName x y) e.1 (_, h)))
forth_value c t ts y (s, vs, an_int h) = let e = spelled h in at_kind t ts y (Value c) kind.Int e.0 (sym e.1)
forth_value c t ts y (s, vs, a_float h) = let e = spelled h in at_kind t ts y (Value c) kind.Float e.0 (sym e.1)
forth_value c t ts y (s, vs, a_string h) = let e = spelled h in at_kind t ts y (Value c) kind.String e.0 (sym e.1)
forth_value c t ts y (s, vs, a_block_string h) = let e = spelled h in at_kind t ts y (Value c) kind.BlockString e.0 (sym e.1)
forth_value c t ts y (s, vs, is_true h) = let e = spelled h in at_kind t ts y (Value c) kind.Name e.0 (sym e.1)
forth_value c t ts y (s, vs, is_false h) = let e = spelled h in at_kind t ts y (Value c) kind.Name e.0 (sym e.1)
forth_value c t ts y (s, vs, is_null h) = let e = spelled h in at_kind t ts y (Value c) kind.Name e.0 (sym e.1)
forth_value c t ts y (s, vs, an_enum h n) = let e = spelled h in at_kind t ts y (Value c) kind.Name e.0 (sym e.1)
forth_value c t ts y (s, vs, a_list a p h) = let e = punctuator p in at_kind t ts y (Value c) kind.BracketOpen e.0 (subst (λ (x : Tokens). Means (MoreValues c) x y) e.1 (_, h))
forth_value c t ts y (s, vs, an_object a p h) = let e = punctuator p in at_kind t ts y (Value c) kind.BraceOpen e.0 (subst (λ (x : Tokens). Means (MoreObjectFields c) x y) e.1 (_, h))

-- a Name is some value
name_value : (c : Bool) (t : Lexeme) (ts : Tokens) (w : Word) → t.kind ≡ kind.Name → word_of t.text ≡ w → Means (Value c) (t ∷ ts) ts
name_value c t ts word.True e f = (_, _, is_true (keyword_here (codes "true") e (sym (spells t.text word.True tt f))))
name_value c t ts word.False e f = (_, _, is_false (keyword_here (codes "false") e (sym (spells t.text word.False tt f))))
name_value c t ts word.Null e f = (_, _, is_null (keyword_here (codes "null") e (sym (spells t.text word.Null tt f))))
name_value c t ts _ e f = (_, _, an_enum (name_here e) (value_word t.text _ f (λ q. cc) (λ q. cc) (λ q. cc)))

pub back_value : (c : Bool) (t : Lexeme) (ts y : Tokens) (k : Kind) → t.kind ≡ k → After (value_move c k) t ts y → Means (Value c) (t ∷ ts) y
back_value true t ts y kind.Dollar e h = absurd h
back_value false t ts y kind.Dollar e h = (_, _, a_variable ts refl (here e) h.1)
back_value c t ts y kind.Int e h = subst (Means (Value c) (t ∷ ts)) h (_, _, an_int (spelled_here e))
back_value c t ts y kind.Float e h = subst (Means (Value c) (t ∷ ts)) h (_, _, a_float (spelled_here e))
back_value c t ts y kind.String e h = subst (Means (Value c) (t ∷ ts)) h (_, _, a_string (spelled_here e))
back_value c t ts y kind.BlockString e h = subst (Means (Value c) (t ∷ ts)) h (_, _, a_block_string (spelled_here e))
back_value c t ts y kind.Name e h = subst (Means (Value c) (t ∷ ts)) h (name_value c t ts (word_of t.text) e refl)
back_value c t ts y kind.BracketOpen e h = (_, _, a_list ts (here e) h.1)
back_value c t ts y kind.BraceOpen e h = (_, _, an_object ts (here e) h.1)
back_value c t ts y _ e h = absurd h

pub value_goes_on : (c : Bool) (k : Kind) → CanGoOn (value_move c k)
value_goes_on true kind.Dollar = tt
value_goes_on false kind.Dollar = tt
value_goes_on c _ = tt

-- Value* ]
values_go_on : (c : Bool) (t : Lexeme) (ts y : Tokens) (k : Kind) → After (behind (value_move c k) (MoreValues c)) t ts y → (k ≡ kind.BracketClose → ⊥) → After (values_move c k) t ts y
values_go_on c t ts y kind.BracketClose h n = absurd (n refl)
values_go_on c t ts y _ h n = h

closes_no_value : (c : Bool) (t : Lexeme) (ts a : Tokens) → After (value_move c t.kind) t ts a → t.kind ≡ kind.BracketClose → ⊥
closes_no_value c t ts a h e = subst (λ (k : Kind). After (value_move c k) t ts a) e h

pub forth_more_values : (c : Bool) (t : Lexeme) (ts y : Tokens) → Means (MoreValues c) (t ∷ ts) y → Next (MoreValues c) t ts y
forth_more_values c t ts y (vs, list_closed p) = let e = punctuator p in at_kind t ts y (MoreValues c) kind.BracketClose e.0 (sym e.1)
forth_more_values c t ts y (vs, an_item a h i) =
    let n = forth_value c t ts a (_, _, h) in
    values_go_on c t ts y t.kind (put_behind t ts a y (value_move c t.kind) (MoreValues c) (value_goes_on c t.kind) n (_, i)) (closes_no_value c t ts a n)

pub back_more_values : (c : Bool) (t : Lexeme) (ts y : Tokens) (k : Kind) → t.kind ≡ k → After (values_move c k) t ts y → Means (MoreValues c) (t ∷ ts) y
back_more_values c t ts y kind.BracketClose e h = subst (Means (MoreValues c) (t ∷ ts)) h (_, list_closed (here e))
back_more_values c t ts y k e h =
    let r = taken_off t ts y (value_move c k) (MoreValues c) h in
    let v = back_value c t ts r.0 k e r.1 in
    (_, an_item r.0 v.2 r.2.1)

-- ObjectField* }
pub forth_more_object_fields : (c : Bool) (t : Lexeme) (ts y : Tokens) → Means (MoreObjectFields c) (t ∷ ts) y → Next (MoreObjectFields c) t ts y
forth_more_object_fields c t ts y (vs, object_closed p) = let e = punctuator p in at_kind t ts y (MoreObjectFields c) kind.BraceClose e.0 (sym e.1)
forth_more_object_fields c t ts y (vs, an_object_field a b d n p h i) =
    let e = spelled n in
    at_kind t ts y (MoreObjectFields c) kind.Name e.0 (b, d, subst (λ (x : Tokens). IsPunctuator kind.Colon x b) e.1 p, (_, _, h), (_, i))

pub back_more_object_fields : (c : Bool) (t : Lexeme) (ts y : Tokens) (k : Kind) → t.kind ≡ k → After (object_fields_move c k) t ts y → Means (MoreObjectFields c) (t ∷ ts) y
back_more_object_fields c t ts y kind.BraceClose e h = subst (Means (MoreObjectFields c) (t ∷ ts)) h (_, object_closed (here e))
back_more_object_fields c t ts y kind.Name e (m, n, p, v, o) = (_, an_object_field ts m n (name_here e) p v.2 o.1)
back_more_object_fields c t ts y _ e h = absurd h

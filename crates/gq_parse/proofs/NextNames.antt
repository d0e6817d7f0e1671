-- Names and words, and one token of their own.
use Rattle.std.proofs.Common.{◌≡◌, ◌≢◌, [], ◌∷◌, Bool, true, None, refl, sym, subst, inl, inr}
use Rattle.gq_text.specs.declared.place.Span.{Span}
use Rattle.gq_lex.specs.declared.token.Kind.{Kind}
use Rattle.gq_lex.specs.declared.token.Kind.TheVariants as kind
use Rattle.gq_lex.specs.Tokens.{Lexeme}
use Rattle.gq_tree.specs.Plain.{TypeOf}
use Rattle.gq_parse.specs.Grammar.{Tokens, IsPunctuator, NotNext, no_name, a_name, no_default, a_default, IsType, nullable, without_null, IsNullableType, named_type, list_type, no_directive, a_directive}
use Rattle.gq_parse.specs.declared.expected.Symbol.TheVariants.{AnyName, Colon, AtSign, CloseBracket, Value, Directives, SomeDirectives, OptionalDefault, AnyType, OptionalBang, OptionalName, OptionalAlias}
use Rattle.gq_parse.specs.declared.expected.Move.TheVariants.{Takes, Skips}
use Rattle.gq_parse.specs.Helping.Expected.{name_move, colon_move, at_move, bracket_move, default_move, type_move, bang_move, optional_name_move, alias_move, directives_move, some_directives_move}
use Rattle.gq_parse.proofs.Means.{Means, After, Next, punctuator, spelled, here, name_here, at_kind, by_move}

pub forth_name : (t : Lexeme) (ts y : Tokens) → Means AnyName (t ∷ ts) y → Next AnyName t ts y
forth_name t ts y (n, h) = let e = spelled h in at_kind t ts y AnyName kind.Name e.0 (sym e.1)

pub back_name : (t : Lexeme) (ts y : Tokens) (k : Kind) → t.kind ≡ k → After (name_move k Takes) t ts y → Means AnyName (t ∷ ts) y
back_name t ts y kind.Name e h = subst (Means AnyName (t ∷ ts)) h (_, name_here e)
back_name t ts y _ e h = absurd h

pub forth_colon : (t : Lexeme) (ts y : Tokens) → Means Colon (t ∷ ts) y → Next Colon t ts y
forth_colon t ts y h = let e = punctuator h in at_kind t ts y Colon kind.Colon e.0 (sym e.1)

pub back_colon : (t : Lexeme) (ts y : Tokens) (k : Kind) → t.kind ≡ k → After (colon_move k) t ts y → Means Colon (t ∷ ts) y
back_colon t ts y kind.Colon e h = subst (Means Colon (t ∷ ts)) h (here e)
back_colon t ts y _ e h = absurd h

pub forth_at : (t : Lexeme) (ts y : Tokens) → Means AtSign (t ∷ ts) y → Next AtSign t ts y
forth_at t ts y h = let e = punctuator h in at_kind t ts y AtSign kind.At e.0 (sym e.1)

pub back_at : (t : Lexeme) (ts y : Tokens) (k : Kind) → t.kind ≡ k → After (at_move k) t ts y → Means AtSign (t ∷ ts) y
back_at t ts y kind.At e h = subst (Means AtSign (t ∷ ts)) h (here e)
back_at t ts y _ e h = absurd h

pub forth_bracket : (t : Lexeme) (ts y : Tokens) → Means CloseBracket (t ∷ ts) y → Next CloseBracket t ts y
forth_bracket t ts y h = let e = punctuator h in at_kind t ts y CloseBracket kind.BracketClose e.0 (sym e.1)

pub back_bracket : (t : Lexeme) (ts y : Tokens) (k : Kind) → t.kind ≡ k → After (bracket_move k) t ts y → Means CloseBracket (t ∷ ts) y
back_bracket t ts y kind.BracketClose e h = subst (Means CloseBracket (t ∷ ts)) h (here e)
back_bracket t ts y _ e h = absurd h

-- Type
pub forth_bang : (t : Lexeme) (ts y : Tokens) → Means OptionalBang (t ∷ ts) y → Next OptionalBang t ts y
forth_bang t ts y (inl h) = by_move t ts y Skips (bang_move t.kind) (skips t.kind h.0) h.1
  where
    skips : (k : Kind) → k ≢ kind.Bang → bang_move k ≡ Skips
    skips kind.Bang n = absurd (n refl)
    skips _ n = refl
forth_bang t ts y (inr h) = let e = punctuator h in at_kind t ts y OptionalBang kind.Bang e.0 (sym e.1)

pub back_bang : (t : Lexeme) (ts y : Tokens) (k : Kind) → t.kind ≡ k → After (bang_move k) t ts y → Means OptionalBang (t ∷ ts) y
back_bang t ts y kind.Bang e h = inr (subst (IsPunctuator kind.Bang (t ∷ ts)) h (here e))
back_bang t ts y _ e h = inl ((λ q. cc), h)

-- a type is a nullable one, and a bang or none
type_parts : {u : TypeOf Span} (x y : Tokens) → IsType u x y → (v : TypeOf Span) × (a : Tokens) × IsNullableType v x a × Means OptionalBang a y
type_parts x y (nullable {t = u} h n) = (u, y, h, inl (n, refl))
type_parts x y (without_null {t = u} a h b) = (u, a, h, inr b)

type_whole : {v : TypeOf Span} (x a y : Tokens) → IsNullableType v x a → Means OptionalBang a y → Means AnyType x y
type_whole {v} x a y h (inl b) = (v, nullable (subst (IsNullableType v x) b.1 h) (subst (NotNext kind.Bang) b.1 b.0))
type_whole x a y h (inr b) = (_, without_null a h b)

forth_nullable : {v : TypeOf Span} (t : Lexeme) (ts a y : Tokens) → IsNullableType v (t ∷ ts) a → Means OptionalBang a y → Next AnyType t ts y
forth_nullable t ts a y (named_type h) b = let e = spelled h in at_kind t ts y AnyType kind.Name e.0 (subst (λ (x : Tokens). Means OptionalBang x y) e.1 b)
forth_nullable t ts a y (list_type c d p h q) b = let e = punctuator p in at_kind t ts y AnyType kind.BracketOpen e.0 (d, a, subst (λ (x : Tokens). Means AnyType x d) e.1 (_, h), q, b)

pub forth_type : (t : Lexeme) (ts y : Tokens) → Means AnyType (t ∷ ts) y → Next AnyType t ts y
forth_type t ts y (u, h) = let p = type_parts (t ∷ ts) y h in forth_nullable t ts p.1 y p.2 p.3

pub back_type : (t : Lexeme) (ts y : Tokens) (k : Kind) → t.kind ≡ k → After (type_move k) t ts y → Means AnyType (t ∷ ts) y
back_type t ts y kind.Name e h = type_whole (t ∷ ts) ts y (named_type (name_here e)) h
back_type t ts y kind.BracketOpen e (m, n, a, b, c) = type_whole (t ∷ ts) n y (list_type ts m (here e) a.1 b) c
back_type t ts y _ e h = absurd h

-- Name?
pub forth_optional_name : (t : Lexeme) (ts y : Tokens) → Means OptionalName (t ∷ ts) y → Next OptionalName t ts y
forth_optional_name t ts y (n, no_name h) = by_move t ts y Skips (optional_name_move t.kind) (skips t.kind h) refl
  where
    skips : (k : Kind) → k ≢ kind.Name → optional_name_move k ≡ Skips
    skips kind.Name n = absurd (n refl)
    skips _ n = refl
forth_optional_name t ts y (n, a_name h) = let e = spelled h in at_kind t ts y OptionalName kind.Name e.0 (sym e.1)

pub back_optional_name : (t : Lexeme) (ts y : Tokens) (k : Kind) → t.kind ≡ k → After (optional_name_move k) t ts y → Means OptionalName (t ∷ ts) y
back_optional_name t ts y kind.Name e h = subst (Means OptionalName (t ∷ ts)) h (_, a_name (name_here e))
back_optional_name t ts y _ e h = subst (Means OptionalName (t ∷ ts)) h (None, no_name (λ q. cc))

-- the alias of a field
pub forth_alias : (t : Lexeme) (ts y : Tokens) → Means OptionalAlias (t ∷ ts) y → Next OptionalAlias t ts y
forth_alias t ts y (inl h) = by_move t ts y Skips (alias_move t.kind) (skips t.kind h.0) h.1
  where
    skips : (k : Kind) → k ≢ kind.Colon → alias_move k ≡ Skips
    skips kind.Colon n = absurd (n refl)
    skips _ n = refl
forth_alias t ts y (inr (b, n, p, h)) = let e = punctuator p in at_kind t ts y OptionalAlias kind.Colon e.0 (subst (λ (x : Tokens). Means AnyName x y) e.1 (n, h))

pub back_alias : (t : Lexeme) (ts y : Tokens) (k : Kind) → t.kind ≡ k → After (alias_move k) t ts y → Means OptionalAlias (t ∷ ts) y
back_alias t ts y kind.Colon e h = inr (ts, h.0, here e, h.1)
back_alias t ts y _ e h = inl ((λ q. cc), h)

-- Directives?
skips_at : (constant : Bool) (k : Kind) → k ≢ kind.At → directives_move constant k ≡ Skips
skips_at constant kind.At n = absurd (n refl)
skips_at constant _ n = refl

pub forth_directives : (constant : Bool) (t : Lexeme) (ts y : Tokens) → Means (Directives constant) (t ∷ ts) y → Next (Directives constant) t ts y
forth_directives constant t ts y (ds, no_directive h) = by_move t ts y Skips (directives_move constant t.kind) (skips_at constant t.kind h) refl
forth_directives constant t ts y (ds, a_directive a b c p h i j) =
    let e = punctuator p in
    at_kind t ts y (Directives constant) kind.At e.0 (b, c, subst (λ (x : Tokens). Means AnyName x b) e.1 (_, h), (_, i), (_, j))

pub back_directives : (constant : Bool) (t : Lexeme) (ts y : Tokens) (k : Kind) → t.kind ≡ k → After (directives_move constant k) t ts y → Means (Directives constant) (t ∷ ts) y
back_directives constant t ts y kind.At e (m, n, a, b, c) = (_, a_directive ts m n (here e) a.1 b.1 c.1)
back_directives constant t ts y _ e h = subst (Means (Directives constant) (t ∷ ts)) h ([], no_directive (λ q. cc))

pub forth_some_directives : (t : Lexeme) (ts y : Tokens) → Means SomeDirectives (t ∷ ts) y → Next SomeDirectives t ts y
forth_some_directives t ts y (d, ds, a_directive a b c p h i j) =
    let e = punctuator p in
    at_kind t ts y SomeDirectives kind.At e.0 (b, c, subst (λ (x : Tokens). Means AnyName x b) e.1 (_, h), (_, i), (_, j))

pub back_some_directives : (t : Lexeme) (ts y : Tokens) (k : Kind) → t.kind ≡ k → After (some_directives_move k) t ts y → Means SomeDirectives (t ∷ ts) y
back_some_directives t ts y kind.At e (m, n, a, b, c) = (_, _, a_directive ts m n (here e) a.1 b.1 c.1)
back_some_directives t ts y _ e h = absurd h

-- DefaultValue?
pub forth_default : (t : Lexeme) (ts y : Tokens) → Means OptionalDefault (t ∷ ts) y → Next OptionalDefault t ts y
forth_default t ts y (d, no_default h) = by_move t ts y Skips (default_move t.kind) (skips t.kind h) refl
  where
    skips : (k : Kind) → k ≢ kind.Equals → default_move k ≡ Skips
    skips kind.Equals n = absurd (n refl)
    skips _ n = refl
forth_default t ts y (d, a_default a p h) =
    let e = punctuator p in
    at_kind t ts y OptionalDefault kind.Equals e.0 (subst (λ (x : Tokens). Means (Value true) x y) e.1 (_, _, h))

pub back_default : (t : Lexeme) (ts y : Tokens) (k : Kind) → t.kind ≡ k → After (default_move k) t ts y → Means OptionalDefault (t ∷ ts) y
back_default t ts y kind.Equals e h = (_, a_default ts (here e) h.2)
back_default t ts y _ e h = subst (Means OptionalDefault (t ∷ ts)) h (None, no_default (λ q. cc))

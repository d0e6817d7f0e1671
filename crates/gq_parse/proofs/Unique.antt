-- Each phrase is read in one way at most: tokens, names, and what a pair of brackets encloses.
use Rattle.std.proofs.Common.{◌≡◌, ℕ, List, [], ◌∷◌, refl, ap, sym, subst, ◌∙◌, Option, Some}
use Rattle.gq_text.specs.declared.place.Span.{Span}
use Rattle.gq_lex.specs.declared.token.Kind.{Kind}
use Rattle.gq_lex.specs.declared.token.Kind.TheVariants as kind
use Rattle.gq_lex.specs.Tokens.{Lexeme}
use Rattle.gq_tree.specs.Plain.{NameOf}
use Rattle.gq_parse.specs.Grammar.{Tokens, IsPunctuator, IsSpelled, IsName, NotNext, ManyUntil, closed, another, OptionalMany, absent, enclosed, IsFragmentName, IsTypeCondition, IsOptionalCondition, no_condition, a_condition, IsOptionalName, no_name, a_name, IsFieldName, no_alias, alias}
use Rattle.gq_parse.specs.Helping.Phrases.{Begins, Unique, NeverBegins}

head_is : {a b : Lexeme} {x y : Tokens} → ◌≡◌ {A = Tokens} (a ∷ x) (b ∷ y) → a ≡ b
head_is h = cc

tail_is : {a b : Lexeme} {x y : Tokens} → ◌≡◌ {A = Tokens} (a ∷ x) (b ∷ y) → x ≡ y
tail_is h = cc

abbrev pub first_letter : List ℕ → ℕ
first_letter [] = 0
first_letter (c ∷ cs) = c

pub one_kind : (k j : Kind) (tokens : Tokens) → Begins k tokens → Begins j tokens → k ≡ j
one_kind k j [] b c = absurd b
one_kind k j (t ∷ ts) b c = sym b ∙ c

pub not_next : (k : Kind) (tokens : Tokens) → NotNext k tokens → Begins k tokens → ⊥
not_next k [] free b = b
not_next k (t ∷ ts) free b = free b

pub moved : (k : Kind) {tokens other : Tokens} → tokens ≡ other → Begins k tokens → Begins k other
moved k same b = subst (Begins k) same b

pub punctuator_begins : {k : Kind} {tokens a : Tokens} → IsPunctuator k tokens a → Begins k tokens
punctuator_begins {k} i = subst (Begins k) (sym i.first) i.kind

pub spelled_begins : {k : Kind} {text : List ℕ} {place : Span} {tokens a : Tokens} → IsSpelled k text place tokens a → Begins k tokens
spelled_begins {k} i = subst (Begins k) (sym i.first) i.kind

pub same_punctuator : {k j : Kind} {tokens other a b : Tokens} → IsPunctuator k tokens a → tokens ≡ other → IsPunctuator j other b → a ≡ b
same_punctuator h same i = tail_is (sym h.first ∙ same ∙ i.first)

pub same_spelled : {k j : Kind} {text word : List ℕ} {p q : Span} {tokens other a b : Tokens} → IsSpelled k text p tokens a → tokens ≡ other → IsSpelled j word q other b → (text ≡ word) × (p ≡ q) × (a ≡ b)
same_spelled h same i =
    let e = sym h.first ∙ same ∙ i.first in
    let t : h.token ≡ i.token = head_is e in
    (h.spelling ∙ ap (λ (t : Lexeme). t.text) t ∙ sym i.spelling, h.span ∙ ap (λ (t : Lexeme). t.span) t ∙ sym i.span, tail_is e)

pub same_name : {n m : NameOf Span} {tokens other a b : Tokens} → IsName n tokens a → tokens ≡ other → IsName m other b → (n ≡ m) × (a ≡ b)
same_name {n} {m} h same i =
    let e = same_spelled h same i in
    let N : List ℕ → Span → NameOf Span = λ t p. record { text = t; place = p } in
    (ap (λ (t : List ℕ). N t n.place) e.0 ∙ ap (λ (p : Span). N m.text p) e.1, e.2)

pub same_closed : {A : Type 0} {X : A → Tokens → Tokens → Type 0} {k : Kind} {xs ys : List A} {tokens other a b : Tokens} → Unique X → NeverBegins k X → ManyUntil X k xs tokens a → tokens ≡ other → ManyUntil X k ys other b → (xs ≡ ys) × (a ≡ b)
same_closed unique apart (closed m) same (closed m2) = (refl, same_punctuator m same m2)
same_closed unique apart (closed m) same (another {x = x} a2 x2 others2) = absurd (apart x _ a2 x2 (moved _ same (punctuator_begins m)))
same_closed unique apart (another {x = x} a x1 others) same (closed m2) = absurd (apart x _ a x1 (moved _ (sym same) (punctuator_begins m2)))
same_closed {A} unique apart (another {x = x} {xs = xs} a x1 others) same (another {x = y} a2 x2 others2) =
    let e = unique x y _ _ a a2 x1 same x2 in
    let r = same_closed unique apart others e.1 others2 in
    (ap (λ (z : A). z ∷ xs) e.0 ∙ ap (λ (zs : List A). y ∷ zs) r.0, r.1)

pub same_enclosed : {A : Type 0} {X : A → Tokens → Tokens → Type 0} {k j : Kind} {xs ys : List A} {tokens other a b : Tokens} → Unique X → NeverBegins j X → OptionalMany X k j xs tokens a → tokens ≡ other → OptionalMany X k j ys other b → (xs ≡ ys) × (a ≡ b)
same_enclosed unique apart (absent free) same (absent free2) = (refl, same)
same_enclosed unique apart (absent free) same (enclosed a2 m2 xs2) = absurd (not_next _ _ free (moved _ (sym same) (punctuator_begins m2)))
same_enclosed unique apart (enclosed a m xs) same (absent free2) = absurd (not_next _ _ free2 (moved _ same (punctuator_begins m)))
same_enclosed unique apart (enclosed a m xs) same (enclosed a2 m2 xs2) = same_closed unique apart xs (same_punctuator m same m2) xs2

pub same_fragment_name : {n m : NameOf Span} {tokens other a b : Tokens} → IsFragmentName n tokens a → tokens ≡ other → IsFragmentName m other b → (n ≡ m) × (a ≡ b)
same_fragment_name h same i = same_name h.is_name same i.is_name

pub same_type_condition : {n m : NameOf Span} {tokens other a b : Tokens} → IsTypeCondition n tokens a → tokens ≡ other → IsTypeCondition m other b → (n ≡ m) × (a ≡ b)
same_type_condition h same i = same_name h.names (same_spelled h.begins same i.begins).2 i.names

pub same_optional_condition : {n m : Option (NameOf Span)} {tokens other a b : Tokens} → IsOptionalCondition n tokens a → tokens ≡ other → IsOptionalCondition m other b → (n ≡ m) × (a ≡ b)
same_optional_condition (no_condition free) same (no_condition free2) = (refl, same)
same_optional_condition (no_condition free) same (a_condition c2) = absurd (not_next _ _ free (moved _ (sym same) (spelled_begins c2.begins)))
same_optional_condition (a_condition c) same (no_condition free2) = absurd (not_next _ _ free2 (moved _ same (spelled_begins c.begins)))
same_optional_condition (a_condition c) same (a_condition c2) = let e = same_type_condition c same c2 in (ap (λ (x : NameOf Span). Some x) e.0, e.1)

-- behind the dots of a spread no type condition stands, and what stands behind those of an inline fragment is no fragment's name
pub name_or_condition : {n : NameOf Span} {on : Option (NameOf Span)} {tokens other a b : Tokens} → IsFragmentName n tokens a → tokens ≡ other → IsOptionalCondition on other b → ⊥
name_or_condition n same (no_condition free) = not_next _ _ free (moved _ same (spelled_begins n.is_name))
name_or_condition n same (a_condition c) = n.not_on (same_spelled n.is_name same c.begins).0

pub same_optional_name : {n m : Option (NameOf Span)} {tokens other a b : Tokens} → IsOptionalName n tokens a → tokens ≡ other → IsOptionalName m other b → (n ≡ m) × (a ≡ b)
same_optional_name (no_name free) same (no_name free2) = (refl, same)
same_optional_name (no_name free) same (a_name n2) = absurd (not_next _ _ free (moved _ (sym same) (spelled_begins n2)))
same_optional_name (a_name n) same (no_name free2) = absurd (not_next _ _ free2 (moved _ same (spelled_begins n)))
same_optional_name (a_name n) same (a_name n2) = let e = same_name n same n2 in (ap (λ (x : NameOf Span). Some x) e.0, e.1)

pub same_field_name : {x y : Option (NameOf Span)} {n m : NameOf Span} {tokens other a b : Tokens} → IsFieldName x n tokens a → tokens ≡ other → IsFieldName y m other b → (x ≡ y) × (n ≡ m) × (a ≡ b)
same_field_name (no_alias n free) same (no_alias n2 free2) = let e = same_name n same n2 in (refl, e.0, e.1)
same_field_name (no_alias n free) same (alias a2 b2 n2 m2 k2) = absurd (not_next _ _ free (moved _ (sym (same_name n same n2).1) (punctuator_begins m2)))
same_field_name (alias a b n m k) same (no_alias n2 free2) = absurd (not_next _ _ free2 (moved _ (same_name n same n2).1 (punctuator_begins m)))
same_field_name (alias a b n m k) same (alias a2 b2 n2 m2 k2) =
    let e = same_name n same n2 in
    let g = same_name k (same_punctuator m e.1 m2) k2 in
    (ap (λ (x : NameOf Span). Some x) e.0, g.0, g.1)

-- the name of a field begins with a Name
pub field_name_begins : {x : Option (NameOf Span)} {n : NameOf Span} {tokens a : Tokens} → IsFieldName x n tokens a → Begins kind.Name tokens
field_name_begins (no_alias n free) = spelled_begins n
field_name_begins (alias a b n m k) = spelled_begins n

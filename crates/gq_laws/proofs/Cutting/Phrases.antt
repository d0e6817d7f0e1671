-- Where tokens are a phrase, the same tokens somewhere else are it too, before another rest that may follow it.
use Rattle.std.proofs.Common.{◌≡◌, ℕ, List, [], ◌∷◌, ◌++◌, Bool, true, false, Option, Some, None, refl, sym, ap, subst, ◌∙◌, append_assoc, map}
use Rattle.std.specs.Option.{option_map}
use Rattle.gq_text.specs.declared.place.Span.{Span}
use Rattle.gq_lex.specs.declared.token.Kind.{Kind}
use Rattle.gq_lex.specs.declared.token.Kind.TheVariants as kind
use Rattle.gq_lex.specs.Tokens.{Lexeme}
use Rattle.gq_tree.specs.Forest.{none, more}
use Rattle.gq_tree.specs.Plain.{NameOf, Says, Val, Vals, variable, int, float, string, boolean, null, enum, list, object, under, unnamed, DirectiveOf, Head, Sels, field, spread, inline, erase_all}
use Rattle.gq_parse.specs.Grammar.{Tokens, IsSpelled, IsPunctuator, IsFragmentName, IsTypeCondition, IsOptionalCondition, no_condition, a_condition, NotNext, covered, ManyUntil, closed, another}
use Rattle.gq_parse.specs.Grammar.{OptionalMany, absent, enclosed, IsValue, a_variable, an_int, a_float, a_string, a_block_string, is_true, is_false, is_null, an_enum, a_list, an_object, IsValues}
use Rattle.gq_parse.specs.Grammar.{list_closed, an_item, IsObjectFields, object_closed, an_object_field, IsArgument, an_argument, IsArguments, IsDirectives, no_directive, a_directive, IsFieldName}
use Rattle.gq_parse.specs.Grammar.{no_alias, alias}
use Rattle.gq_parse.specs.Grammar.{IsSelection, a_field, a_spread, an_inline, IsOptionalSet, no_set, a_set, IsSelectionSet, braces, IsSelections, set_closed, selection}
use Rattle.gq_parse.specs.TypeSystem.{NotWord}
use Rattle.gq_renamed.proofs.Regrammar.{Then, Peeks, Spelled, NamesLike, Like, plain_name, plain_says, plain_values, plain_value, plain_directive, plain_head, there}
use Rattle.gq_laws.proofs.Cutting.Alike.{AreAlike}

-- which kinds of a next token a phrase may not have behind it, and which words
pub record Asked : Type 0 where
  pub kinds : Kind → Bool
  pub words : List ℕ → Bool

-- a rest in place of another: where a token that is asked about was not next, it is not next
pub record MayFollow (asked : Asked) (rest after : Tokens) : Type 0 where
  pub kinds : (k : Kind) → asked.kinds k ≡ true → NotNext k rest → NotNext k after
  pub words : (w : List ℕ) → asked.words w ≡ true → NotWord w rest → NotWord w after

-- The tokens up to a rest; the same ones somewhere else, before another rest that may follow, are what Q says.
pub record Kept (asked : Asked) (Q : Tokens → Tokens → Type 0) (tokens rest : Tokens) : Type 0 where
  pub front : Tokens
  pub split : tokens ≡ front ++ rest
  pub again : (us after : Tokens) → AreAlike front us → MayFollow asked rest after → Q (us ++ after) after

-- tokens that are like two parts are cut between them
pub record CutAlike (f g us : Tokens) : Type 0 where
  pub first : Tokens
  pub second : Tokens
  pub whole : us ≡ first ++ second
  pub alike : AreAlike f first
  pub rest : AreAlike g second

pub cut_alike : (f g us : Tokens) → AreAlike (f ++ g) us → CutAlike f g us
cut_alike [] g us h = record { first = []; second = us; whole = refl; alike = tt; rest = h }
cut_alike (t ∷ f) g [] h = absurd h
cut_alike (t ∷ f) g (u ∷ us) h =
    let c = cut_alike f g us h.2 in
    record { first = u ∷ c.first; second = c.second; whole = ap (λ (l : Tokens). u ∷ l) c.whole; alike = (h.0, h.1, c.alike); rest = c.rest }

pub alike_append : (f g us vs : Tokens) → AreAlike f us → AreAlike g vs → AreAlike (f ++ g) (us ++ vs)
alike_append [] g [] vs h k = k
alike_append [] g (u ∷ us) vs h k = absurd h
alike_append (t ∷ f) g [] vs h k = absurd h
alike_append (t ∷ f) g (u ∷ us) vs h k = (h.0, h.1, alike_append f g us vs h.2 k)

-- what may follow is asked of the first token alone
same_first : (asked : Asked) (t u : Lexeme) (ts us : Tokens) → u.kind ≡ t.kind → u.text ≡ t.text → MayFollow asked (t ∷ ts) (u ∷ us)
same_first asked t u ts us e d = record { kinds = λ k is free same. free (sym e ∙ same); words = λ w is free named same. free (sym e ∙ named) (sym d ∙ same) }

pub next_alike : (asked : Asked) (f us rest after : Tokens) → AreAlike f us → MayFollow asked rest after → MayFollow asked (f ++ rest) (us ++ after)
next_alike asked [] [] rest after h s = s
next_alike asked [] (u ∷ us) rest after h s = absurd h
next_alike asked (t ∷ f) [] rest after h s = absurd h
next_alike asked (t ∷ f) (u ∷ us) rest after h s = same_first asked t u (f ++ rest) (us ++ after) h.0 h.1

-- there is a token
abbrev pub IsSome : Tokens → Type 0
IsSome [] = ⊥
IsSome (t ∷ ts) = Unit {0}

pub some_alike : (asked : Asked) (f us rest after : Tokens) → IsSome f → AreAlike f us → MayFollow asked (f ++ rest) (us ++ after)
some_alike asked [] us rest after i h = absurd i
some_alike asked (t ∷ f) [] rest after i h = absurd h
some_alike asked (t ∷ f) (u ∷ us) rest after i h = same_first asked t u (f ++ rest) (us ++ after) h.0 h.1

-- everything is asked
abbrev pub everything : Asked
everything = record { kinds = λ k. true; words = λ w. true }

-- one part and another, where what may follow the second may follow the first if the second is nothing
abbrev pub Nexts : Asked → Asked → Tokens → Tokens → Type 0
Nexts asked own front rest = (us after : Tokens) → AreAlike front us → MayFollow asked rest after → MayFollow own (front ++ rest) (us ++ after)

both_by : {asked own : Asked} {Q R : Tokens → Tokens → Type 0} {tokens a rest : Tokens} → Kept own Q tokens a → (w : Kept asked R a rest) → Nexts asked own w.front rest →
    Kept asked (Then Q R) tokens rest
both_by {asked} {own} {Q} {R} {tokens} {a} {rest} v w nexts = record {
  front = v.front ++ w.front;
  split = v.split ∙ ap (λ (l : Tokens). v.front ++ l) w.split ∙ sym (append_assoc v.front w.front rest);
  again = λ us after r s.
      let c = cut_alike v.front w.front us r in
      let P : Tokens → Type 0 = λ l. MayFollow own l (c.second ++ after) in
      let next : MayFollow own a (c.second ++ after) = subst P (sym w.split) (nexts c.second after c.rest s) in
      let first = v.again c.first (c.second ++ after) c.alike next in
      let second = w.again c.second after c.rest s in
      let whole : us ++ after ≡ c.first ++ (c.second ++ after) = ap (λ (l : Tokens). l ++ after) c.whole ∙ append_assoc c.first c.second after in
      let S : Tokens → Type 0 = λ l. Q l (c.second ++ after) in
      (c.second ++ after, subst S (sym whole) first, second);
}

pub both : {asked : Asked} {Q R : Tokens → Tokens → Type 0} {tokens a rest : Tokens} → Kept asked Q tokens a → Kept asked R a rest → Kept asked (Then Q R) tokens rest
both {asked} {rest = rest} v w = both_by v w (λ us after h s. next_alike asked w.front us rest after h s)

-- the same where the second part is not nothing
pub both_some : {asked own : Asked} {Q R : Tokens → Tokens → Type 0} {tokens a rest : Tokens} → Kept own Q tokens a → (w : Kept asked R a rest) → IsSome w.front → Kept asked (Then Q R) tokens rest
both_some {asked} {own} {rest = rest} v w some = both_by v w (λ us after h s. some_alike own w.front us rest after some h)

pub turned : {asked : Asked} {Q R : Tokens → Tokens → Type 0} {tokens rest : Tokens} → ((x y : Tokens) → Q x y → R x y) → Kept asked Q tokens rest → Kept asked R tokens rest
turned f w = record { front = w.front; split = w.split; again = λ us after r s. f (us ++ after) after (w.again us after r s) }

pub none_alike : (us after : Tokens) → AreAlike [] us → us ++ after ≡ after
none_alike [] after h = refl
none_alike (u ∷ us) after h = absurd h

pub peeked : {asked : Asked} {k : Kind} {tokens : Tokens} → asked.kinds k ≡ true → NotNext k tokens → Kept asked (Peeks k) tokens tokens
peeked {k = k} {tokens} is h = record {
  front = [];
  split = refl;
  again = λ us after r s.
      let e = none_alike us after r in
      let P : Tokens → Type 0 = λ l. NotNext k l in
      (e, subst P (sym e) (s.kinds k is h));
}

-- one token
pub record One (t : Lexeme) (us : Tokens) : Type 0 where
  pub token : Lexeme
  pub only : us ≡ token ∷ []
  pub kind : token.kind ≡ t.kind
  pub text : token.text ≡ t.text

pub one_alike : (t : Lexeme) (us : Tokens) → AreAlike (t ∷ []) us → One t us
one_alike t [] h = absurd h
one_alike t (u ∷ []) h = record { token = u; only = refl; kind = h.0; text = h.1 }
one_alike t (u ∷ v ∷ us) h = absurd h.2

pub sign_kept : {asked : Asked} {k : Kind} {tokens rest : Tokens} → IsPunctuator k tokens rest → Kept asked (IsPunctuator k) tokens rest
sign_kept {k = k} h = record {
  front = h.token ∷ [];
  split = h.first;
  again = λ us after r s.
      let o = one_alike h.token us r in
      record { token = o.token; first = ap (λ (l : Tokens). l ++ after) o.only; kind = o.kind ∙ h.kind };
}

pub sign_some : (asked : Asked) {k : Kind} {tokens rest : Tokens} (h : IsPunctuator k tokens rest) → IsSome (sign_kept {asked = asked} h).front
unfolding sign_kept
sign_some asked h = tt

pub some_more : (f g : Tokens) → IsSome f → IsSome (f ++ g)
some_more [] g h = absurd h
some_more (t ∷ f) g h = h

pub spelled_kept : {asked : Asked} {k : Kind} {text : List ℕ} {p : Span} {tokens rest : Tokens} → IsSpelled k text p tokens rest → Kept asked (Spelled k text) tokens rest
spelled_kept {k = k} h = record {
  front = h.token ∷ [];
  split = h.first;
  again = λ us after r s.
      let o = one_alike h.token us r in
      (o.token.span, record { token = o.token; first = ap (λ (l : Tokens). l ++ after) o.only; kind = o.kind ∙ h.kind; spelling = h.spelling ∙ sym o.text; span = refl });
}

pub spelled_some : (asked : Asked) {k : Kind} {text : List ℕ} {p : Span} {tokens rest : Tokens} (h : IsSpelled k text p tokens rest) → IsSome (spelled_kept {asked = asked} h).front
unfolding spelled_kept
spelled_some asked h = tt

pub turned_some : {asked : Asked} {Q R : Tokens → Tokens → Type 0} {tokens rest : Tokens} (f : (x y : Tokens) → Q x y → R x y) (w : Kept asked Q tokens rest) → IsSome w.front →
    IsSome (turned {R = R} f w).front
unfolding turned
turned_some f w h = h

pub both_first : {asked : Asked} {Q R : Tokens → Tokens → Type 0} {tokens a rest : Tokens} (v : Kept asked Q tokens a) (w : Kept asked R a rest) → IsSome v.front → IsSome (both v w).front
unfolding both both_by
both_first v w h = some_more v.front w.front h

-- a part, a token, and a part
pub both_around : {asked own : Asked} {Q R : Tokens → Tokens → Type 0} {k : Kind} {text : List ℕ} {p : Span} {tokens a b rest : Tokens} → Kept own Q tokens a → IsSpelled k text p a b →
    Kept asked R b rest → Kept asked (Then Q (Then (Spelled k text) R)) tokens rest
both_around {asked} v h w = both_some v (both (spelled_kept h) w) (both_first (spelled_kept h) w (spelled_some asked h))

-- nothing, where a part is optional
pub skipped : {asked : Asked} {A B : Type 0} {X : A → Tokens → Tokens → Type 0} {f : A → B} {k : Kind} {tokens : Tokens} (x : A) → asked.kinds k ≡ true → ((u : Tokens) → NotNext k u → X x u u) →
    NotNext k tokens → Kept asked (Like X f x) tokens tokens
skipped {X = X} {f} x is one free = turned (λ u v q. let P : Tokens → Type 0 = λ l. X x u l in (x, subst P q.0 (one u q.1), refl)) (peeked is free)

-- each phrase of a kind is kept
abbrev pub AllKept : {A B : Type 0} → Asked → (A → Tokens → Tokens → Type 0) → (A → B) → Type 0
AllKept {A} asked X f = (x : A) (tokens rest : Tokens) → X x tokens rest → Kept asked (Like X f x) tokens rest

-- phrases and the punctuator that closes them
closed_kept : {asked : Asked} {A B : Type 0} {X : A → Tokens → Tokens → Type 0} {f : A → B} {k : Kind} {xs : List A} {tokens rest : Tokens} → AllKept asked X f → ManyUntil X k xs tokens rest →
    Kept asked (Like (ManyUntil X k) (map f) xs) tokens rest
closed_kept each (closed m) = turned (λ u v q. ([], closed q, refl)) (sign_kept m)
closed_kept {X = X} {f} {tokens = tokens} each (another {x = x} {xs = xs} a one others) =
    turned (λ u v q. (q.1.0 ∷ q.2.0, another q.0 q.1.1 q.2.1, let e = q.1.2 in let d = q.2.2 in cc)) (both (each x tokens a one) (closed_kept {f = f} each others))

enclose : {A B : Type 0} {X : A → Tokens → Tokens → Type 0} {f : A → B} {k j : Kind} {u v w : Tokens} (x : A) (xs ys : List A) → IsPunctuator k u v → ManyUntil X j ys v w →
    map f ys ≡ f x ∷ map f xs → Like (OptionalMany X k j) (map f) (x ∷ xs) u w
enclose x xs [] m c e = absurd (cc)
enclose {v = v} x xs (y ∷ ys) m c e = (y ∷ ys, enclosed v m c, e)

pub enclosed_kept : {asked : Asked} {A B : Type 0} {X : A → Tokens → Tokens → Type 0} {f : A → B} {k j : Kind} {xs : List A} {tokens rest : Tokens} → asked.kinds k ≡ true → AllKept asked X f →
    OptionalMany X k j xs tokens rest → Kept asked (Like (OptionalMany X k j) (map f) xs) tokens rest
enclosed_kept {X = X} {f} {k} {j} is each (absent free) = skipped {X = OptionalMany X k j} {f = map f} [] is (λ u h. absent h) free
enclosed_kept {X = X} {f} {k} {j} is each (enclosed {x = x} {xs = xs} a m c) =
    turned (λ u v q. enclose x xs q.2.0 q.1 q.2.1 q.2.2) (both (sign_kept m) (closed_kept {f = f} each c))

-- a value, values in brackets, fields in braces
abbrev pub ValueLike : Bool → Says Span → Vals Span → Tokens → Tokens → Type 0
ValueLike constant says below x y = (s : Says Span) × (b : Vals Span) × IsValue constant s b x y × (plain_says s ≡ plain_says says) × (plain_values b ≡ plain_values below)

mutual
  pub value_kept : {asked : Asked} {constant : Bool} {says : Says Span} {below : Vals Span} {tokens rest : Tokens} → IsValue constant says below tokens rest →
      Kept asked (ValueLike constant says below) tokens rest
  value_kept (a_variable {name = name} a free m n) =
      turned (λ x y q. (variable (record { text = name.text; place = q.2.0 }) (covered x y), none, a_variable q.0 free q.1 q.2.1, refl, refl)) (both (sign_kept m) (spelled_kept n))
  value_kept (an_int {text = text} h) = turned (λ x y q. (int text q.0, none, an_int q.1, refl, refl)) (spelled_kept h)
  value_kept (a_float {text = text} h) = turned (λ x y q. (float text q.0, none, a_float q.1, refl, refl)) (spelled_kept h)
  value_kept (a_string {text = text} h) = turned (λ x y q. (string text q.0, none, a_string q.1, refl, refl)) (spelled_kept h)
  value_kept (a_block_string {text = text} h) = turned (λ x y q. (string text q.0, none, a_block_string q.1, refl, refl)) (spelled_kept h)
  value_kept (is_true h) = turned (λ x y q. (boolean true q.0, none, is_true q.1, refl, refl)) (spelled_kept h)
  value_kept (is_false h) = turned (λ x y q. (boolean false q.0, none, is_false q.1, refl, refl)) (spelled_kept h)
  value_kept (is_null h) = turned (λ x y q. (null q.0, none, is_null q.1, refl, refl)) (spelled_kept h)
  value_kept (an_enum {name = name} h other) = turned (λ x y q. (enum (record { text = name.text; place = q.0 }), none, an_enum q.1 other, refl, refl)) (spelled_kept h)
  value_kept (a_list a m vs) = turned (λ x y q. (list (covered x y), q.2.0, a_list q.0 q.1 q.2.1, refl, q.2.2)) (both (sign_kept m) (values_kept vs))
  value_kept (an_object a m vs) = turned (λ x y q. (object (covered x y), q.2.0, an_object q.0 q.1 q.2.1, refl, q.2.2)) (both (sign_kept m) (fields_kept vs))

  values_kept : {asked : Asked} {constant : Bool} {vs : Vals Span} {tokens rest : Tokens} → IsValues constant vs tokens rest → Kept asked (Like (IsValues constant) plain_values vs) tokens rest
  values_kept (list_closed m) = turned (λ x y q. (none, list_closed q, refl)) (sign_kept m)
  values_kept (an_item {says = says} {below = below} {vs = vs} a v others) =
      turned (λ x y q. (
        more (record { key = None; says = q.1.0 }) q.1.1 q.2.0,
        an_item q.0 q.1.2 q.2.1,
        let s = q.1.3 in let b = q.1.4 in let r = q.2.2 in cc,
      ))
      (both (value_kept v) (values_kept others))

  fields_kept : {asked : Asked} {constant : Bool} {vs : Vals Span} {tokens rest : Tokens} → IsObjectFields constant vs tokens rest →
      Kept asked (Like (IsObjectFields constant) plain_values vs) tokens rest
  fields_kept (object_closed m) = turned (λ x y q. (none, object_closed q, refl)) (sign_kept m)
  fields_kept (an_object_field {name = name} {says = says} {below = below} {vs = vs} a b c n m v others) =
      turned (λ x y q.
      let p = q.2.2 in (
        more (record { key = Some (record { text = name.text; place = q.1.0 }); says = p.1.0 }) p.1.1 p.2.0,
        an_object_field q.0 q.2.0 p.0 q.1.1 q.2.1 p.1.2 p.2.1,
        let s = p.1.3 in let b = p.1.4 in let r = p.2.2 in cc,
      ))
      (both (spelled_kept n) (both (sign_kept m) (both (value_kept v) (fields_kept others))))

-- arguments
argument_kept : {asked : Asked} {constant : Bool} {v : Val Span} {tokens rest : Tokens} → IsArgument constant v tokens rest → Kept asked (Like (IsArgument constant) plain_value v) tokens rest
argument_kept (an_argument {name = name} {says = says} {below = below} a b n m v) =
    turned (λ x y q.
    let p = q.2.2 in (
      under (record { text = name.text; place = q.1.0 }) (unnamed p.0 p.1),
      an_argument q.0 q.2.0 q.1.1 q.2.1 p.2,
      let s = p.3 in let b = p.4 in cc,
    ))
    (both (spelled_kept n) (both (sign_kept m) (value_kept v)))

pub arguments_kept : {asked : Asked} {constant : Bool} {vs : List (Val Span)} {tokens rest : Tokens} → asked.kinds kind.ParenOpen ≡ true → IsArguments constant vs tokens rest →
    Kept asked (Like (IsArguments constant) (map plain_value) vs) tokens rest
arguments_kept is h = enclosed_kept {f = plain_value} is (λ x t rest one. argument_kept one) h

-- directives
pub directives_kept : {asked : Asked} {constant : Bool} {ds : List (DirectiveOf Span)} {tokens rest : Tokens} → asked.kinds kind.ParenOpen ≡ true → asked.kinds kind.At ≡ true →
    IsDirectives constant ds tokens rest → Kept asked (Like (IsDirectives constant) (map plain_directive) ds) tokens rest
directives_kept {constant = constant} paren at (no_directive free) = skipped {X = IsDirectives constant} {f = map plain_directive} [] at (λ u h. no_directive h) free
directives_kept paren at (a_directive {name = name} {arguments = vs} {ds = ds} a b c m n args others) =
    turned (λ x y q.
    let w = q.2.1 in
    let p = q.2.2 in (
      record { name = record { text = name.text; place = w.0 }; arguments = p.1.0; place = covered x p.0 } ∷ p.2.0,
      a_directive q.0 q.2.0 p.0 q.1 w.1 p.1.1 p.2.1,
      let e = p.1.2 in let d = p.2.2 in cc,
    ))
    (both (sign_kept m) (both (spelled_kept n) (both (arguments_kept paren args) (directives_kept paren at others))))

-- what a selection asks about
abbrev pub AsksSelection : Asked → Type 0
AsksSelection asked = (asked.kinds kind.Colon ≡ true) × (asked.kinds kind.ParenOpen ≡ true) × (asked.kinds kind.At ≡ true) × (asked.kinds kind.BraceOpen ≡ true)

-- the names of a field
pub names_kept : {asked : Asked} {a : Option (NameOf Span)} {n : NameOf Span} {tokens rest : Tokens} → asked.kinds kind.Colon ≡ true → IsFieldName a n tokens rest →
    Kept asked (NamesLike a n) tokens rest
names_kept is (no_alias {name = name} n free) =
    turned (λ x y q.
    let m : NameOf Span = record { text = name.text; place = q.1.0 } in
    let P : Tokens → Type 0 = λ l. IsFieldName None m x l in
    (None, m, subst P q.2.0 (no_alias q.1.1 q.2.1), refl, refl))
    (both (spelled_kept n) (peeked is free))
names_kept is (alias {first = first} {name = name} a b n m k) =
    turned (λ x y q. (
      Some (record { text = first.text; place = q.1.0 }),
      record { text = name.text; place = q.2.2.0 },
      alias q.0 q.2.0 q.1.1 q.2.1 q.2.2.1,
      refl,
      refl,
    ))
    (both (spelled_kept n) (both (sign_kept m) (spelled_kept k)))

-- a fragment's name
pub fragment_name_kept : {asked : Asked} {name : NameOf Span} {tokens rest : Tokens} → IsFragmentName name tokens rest → Kept asked (Like IsFragmentName plain_name name) tokens rest
fragment_name_kept {name = name} h = turned (λ x y q. (record { text = name.text; place = q.0 }, record { is_name = q.1; not_on = h.not_on }, refl)) (spelled_kept h.is_name)

-- a type condition
pub condition_kept : {asked : Asked} {on : NameOf Span} {tokens rest : Tokens} → IsTypeCondition on tokens rest → Kept asked (Like IsTypeCondition plain_name on) tokens rest
condition_kept {on = on} h =
    turned (λ x y q. (record { text = on.text; place = q.2.0 }, record { keyword = q.1.0; behind = q.0; begins = q.1.1; names = q.2.1 }, refl))
    (both (spelled_kept h.begins) (spelled_kept h.names))

pub optional_condition_kept : {asked : Asked} {o : Option (NameOf Span)} {tokens rest : Tokens} → asked.kinds kind.Name ≡ true → IsOptionalCondition o tokens rest →
    Kept asked (Like IsOptionalCondition (option_map plain_name) o) tokens rest
optional_condition_kept is (no_condition free) = skipped {X = IsOptionalCondition} {f = option_map plain_name} None is (λ u h. no_condition h) free
optional_condition_kept is (a_condition h) = turned (λ x y q. (Some q.0, a_condition q.1, let e = q.2 in cc)) (condition_kept h)

-- selections
abbrev pub SelectionLike : Head Span → Sels Span → Tokens → Tokens → Type 0
SelectionLike h ss x y = (h' : Head Span) × (ss' : Sels Span) × IsSelection h' ss' x y × (plain_head h' ≡ plain_head h) × (erase_all ss' ≡ erase_all ss)

abbrev pub OptionalLike : Option Span → Sels Span → Tokens → Tokens → Type 0
OptionalLike o ss x y = (o' : Option Span) × (ss' : Sels Span) × IsOptionalSet o' ss' x y × (there o' ≡ there o) × (erase_all ss' ≡ erase_all ss)

abbrev pub SetLike : Sels Span → Tokens → Tokens → Type 0
SetLike = Like IsSelectionSet erase_all

abbrev pub SelectionsLike : Sels Span → Tokens → Tokens → Type 0
SelectionsLike = Like IsSelections erase_all

pub brace : {x y z : Tokens} (h : Head Span) (below ss zs : Sels Span) → IsPunctuator kind.BraceOpen x y → IsSelections zs y z → erase_all zs ≡ erase_all (more h below ss) →
    SetLike (more h below ss) x z
brace h below ss none m body e = absurd (cc)
brace {y = y} h below ss (more l b o) m body e = (more l b o, braces y m body, e)

pub in_braces : {asked : Asked} {x y z : Tokens} (h : Head Span) (below ss : Sels Span) → IsPunctuator kind.BraceOpen x y → Kept asked (SelectionsLike (more h below ss)) y z →
    Kept asked (SetLike (more h below ss)) x z
in_braces h below ss m body = turned (λ x y q. brace h below ss q.2.0 q.1 q.2.1 q.2.2) (both (sign_kept m) body)

pub in_braces_some : {asked : Asked} {x y z : Tokens} (h : Head Span) (below ss : Sels Span) (m : IsPunctuator kind.BraceOpen x y) (body : Kept asked (SelectionsLike (more h below ss)) y z) →
    IsSome (in_braces h below ss m body).front
unfolding in_braces turned both both_by sign_kept
in_braces_some h below ss m body = tt

pub more_like : (g h : Head Span) (a b qs ss : Sels Span) → plain_head g ≡ plain_head h → erase_all a ≡ erase_all b → erase_all qs ≡ erase_all ss → erase_all (more g a qs) ≡ erase_all (more h b ss)
more_like g h a b qs ss e1 e2 e3 = cc

mutual
  pub selection_kept : {asked : Asked} {h : Head Span} {ss : Sels Span} {tokens rest : Tokens} → AsksSelection asked → IsSelection h ss tokens rest → Kept asked (SelectionLike h ss) tokens rest
  selection_kept is (a_field {alias = al} {name = n} {arguments = vs} {directives = ds} {braces = o} {ss = ss} a b c names args dirs set) =
      turned (λ x y q.
      let w = q.2.1 in
      let d = q.2.2.1 in
      let s = q.2.2.2 in (
        field q.1.0 q.1.1 w.0 d.0 s.0 (covered x y),
        s.1,
        a_field q.0 q.2.0 q.2.2.0 q.1.2 w.1 d.1 s.2,
        let e1 = q.1.3 in let e2 = q.1.4 in let e3 = w.2 in let e4 = d.2 in let e5 = s.3 in cc,
        s.4,
      ))
      (both (names_kept is.0 names) (both (arguments_kept is.1 args) (both (directives_kept is.1 is.2 dirs) (optional_kept is set))))
  selection_kept is (a_spread {name = name} {directives = ds} a b m n dirs) =
      turned (λ x y q.
      let n' = q.2.1 in
      let d = q.2.2 in (
        spread n'.0 d.0 (covered x y),
        none,
        a_spread q.0 q.2.0 q.1 n'.1 d.1,
        let e = n'.2 in let e2 = d.2 in cc,
        refl,
      ))
      (both (sign_kept m) (both (fragment_name_kept n) (directives_kept is.1 is.2 dirs)))
  selection_kept is (an_inline {on = on} {directives = ds} a b c m cond dirs (braces {h = h} {below = below} {ss = ss} e n body)) =
      turned (λ x y q.
      let o = q.1.2.1 in
      let d = q.1.2.2 in
      let s = q.2 in (
        inline o.0 d.0 (covered q.0 y) (covered x y),
        s.0,
        an_inline q.1.0 q.1.2.0 q.0 q.1.1 o.1 d.1 s.1,
        let e1 = o.2 in let e2 = d.2 in cc,
        s.2,
      ))
      (both_some {own = everything} (both (sign_kept m) (both (optional_condition_kept refl cond) (directives_kept refl refl dirs))) (in_braces h below ss n (selections_kept is body))
      (in_braces_some h below ss n (selections_kept is body)))

  optional_kept : {asked : Asked} {o : Option Span} {ss : Sels Span} {tokens rest : Tokens} → AsksSelection asked → IsOptionalSet o ss tokens rest → Kept asked (OptionalLike o ss) tokens rest
  optional_kept is (no_set f) = turned (λ x y q. let P : Tokens → Type 0 = λ l. IsOptionalSet None none x l in (None, none, subst P q.0 (no_set q.1), refl, refl)) (peeked is.3 f)
  optional_kept is (a_set set) = turned (λ x y q. (Some (covered x y), q.0, a_set q.1, refl, q.2)) (set_kept is set)

  pub set_kept : {asked : Asked} {ss : Sels Span} {tokens rest : Tokens} → AsksSelection asked → IsSelectionSet ss tokens rest → Kept asked (SetLike ss) tokens rest
  set_kept is (braces {h = h} {below = below} {ss = ss} a m body) = in_braces h below ss m (selections_kept is body)

  pub selections_kept : {asked : Asked} {ss : Sels Span} {tokens rest : Tokens} → AsksSelection asked → IsSelections ss tokens rest → Kept asked (SelectionsLike ss) tokens rest
  selections_kept is (set_closed m) = turned (λ x y q. (none, set_closed q, refl)) (sign_kept m)
  selections_kept is (selection {h = h} {below = b} {ss = ss} a sel body) =
      turned (λ x y q. (
        more q.1.0 q.1.1 q.2.0,
        selection q.0 q.1.2 q.2.1,
        more_like q.1.0 h q.1.1 b q.2.0 ss q.1.3 q.1.4 q.2.2,
      ))
      (both (selection_kept is sel) (selections_kept is body))

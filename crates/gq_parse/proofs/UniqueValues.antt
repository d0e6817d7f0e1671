-- Values, arguments, directives, types and the definitions of variables are each read in one way at most.
use Rattle.std.proofs.Common.{length, arith, ◌≡◌, ℕ, Bool, true, false, List, refl, ap, sym, subst, ◌∙◌, Option, codes, inl, inr}
use Rattle.gq_text.specs.declared.place.Span.{Span}
use Rattle.gq_lex.specs.declared.token.Kind.{Kind}
use Rattle.gq_lex.specs.declared.token.Kind.TheVariants as kind
use Rattle.gq_tree.specs.Forest.{none}
use Rattle.gq_tree.specs.Plain.{NameOf, Says, Val, Vals, variable, int, float, string, boolean, null, enum, list, object, DirectiveOf, TypeOf, named, list_of, non_null, VariableOf}
use Rattle.gq_parse.specs.Grammar.{Tokens, covered, IsPunctuator, IsSpelled, IsName, IsKeyword, IsValueWord, IsValue, a_variable, an_int, a_float, a_string, a_block_string, is_true, is_false, is_null, an_enum, a_list, an_object, IsValues, list_closed, an_item, IsObjectFields, object_closed, an_object_field, IsArgument, an_argument, IsArguments, IsDirectives, no_directive, a_directive, IsType, nullable, without_null, IsNullableType, named_type, list_type, IsDefaultValue, no_default, a_default, IsVariableDefinition, a_variable_definition, IsVariableDefinitions}
use Rattle.gq_parse.specs.Helping.Phrases.{Begins, IsVariable, Unique, NeverBegins}
use Rattle.gq_parse.proofs.Unique.{first_letter, one_kind, not_next, moved, punctuator_begins, spelled_begins, same_punctuator, same_spelled, same_name, same_enclosed}

pub same_variable : {n m : NameOf Span} {tokens other a b : Tokens} → IsVariable n tokens a → tokens ≡ other → IsVariable m other b → (n ≡ m) × (a ≡ b)
same_variable h same i = same_name h.names (same_punctuator h.dollar same i.dollar) i.names

-- the words that are values differ in their length or in their first letter
true_apart_null : {word : List ℕ} → word ≡ codes "true" → word ≡ codes "null" → ⊥
true_apart_null e f = let h : 116 ≡ 110 = ap first_letter (sym e ∙ f) in absurd (omega (arith, h))

true_apart_false : {word : List ℕ} → word ≡ codes "true" → word ≡ codes "false" → ⊥
true_apart_false e f = let h : 4 ≡ 5 = ap length (sym e ∙ f) in absurd (omega (arith, h))

null_apart_false : {word : List ℕ} → word ≡ codes "null" → word ≡ codes "false" → ⊥
null_apart_false e f = let h : 4 ≡ 5 = ap length (sym e ∙ f) in absurd (omega (arith, h))

-- a value that a Name is: true, false, null, or an enum value
pub data IsWord : List ℕ → Span → Says Span → Type 0 where
  word_true : {word : List ℕ} {place : Span} → word ≡ codes "true" → IsWord word place (boolean true place)
  word_false : {word : List ℕ} {place : Span} → word ≡ codes "false" → IsWord word place (boolean false place)
  word_null : {word : List ℕ} {place : Span} → word ≡ codes "null" → IsWord word place (null place)
  word_enum : {word : List ℕ} {place : Span} → (IsValueWord word → ⊥) → IsWord word place (enum (record { text = word; place = place }))

pub same_word : {word : List ℕ} {place : Span} {s z : Says Span} → IsWord word place s → IsWord word place z → s ≡ z
same_word (word_true e) (word_true f) = refl
same_word (word_true e) (word_false f) = absurd (true_apart_false e f)
same_word (word_true e) (word_null f) = absurd (true_apart_null e f)
same_word (word_true e) (word_enum other) = absurd (other (inl e))
same_word (word_false e) (word_true f) = absurd (true_apart_false f e)
same_word (word_false e) (word_false f) = refl
same_word (word_false e) (word_null f) = absurd (null_apart_false f e)
same_word (word_false e) (word_enum other) = absurd (other (inr (inl e)))
same_word (word_null e) (word_true f) = absurd (true_apart_null f e)
same_word (word_null e) (word_false f) = absurd (null_apart_false e f)
same_word (word_null e) (word_null f) = refl
same_word (word_null e) (word_enum other) = absurd (other (inr (inr e)))
same_word (word_enum other) (word_true f) = absurd (other (inl f))
same_word (word_enum other) (word_false f) = absurd (other (inr (inl f)))
same_word (word_enum other) (word_null f) = absurd (other (inr (inr f)))
same_word (word_enum other) (word_enum other2) = refl

-- a literal of one token
pub record IsLiteral (k : Kind) (make : List ℕ → Span → Says Span) (says : Says Span) (below : Vals Span) (tokens rest : Tokens) : Type 0 where
  pub text : List ℕ
  pub place : Span
  pub spelled : IsSpelled k text place tokens rest
  pub is : says ≡ make text place
  pub bare : below ≡ none

-- a value that is one Name
pub record IsWordValue (says : Says Span) (below : Vals Span) (tokens rest : Tokens) : Type 0 where
  pub name : NameOf Span
  pub names : IsName name tokens rest
  pub word : IsWord name.text name.place says
  pub bare : below ≡ none

-- a value, by the kind of its first token
abbrev pub ValueBy : Kind → Bool → Says Span → Vals Span → Tokens → Tokens → Type 0
ValueBy kind.Dollar constant says below tokens rest = (name : NameOf Span) × (constant ≡ false) × IsVariable name tokens rest × (says ≡ variable name (covered tokens rest)) × (below ≡ none)
ValueBy kind.Int constant says below tokens rest = IsLiteral kind.Int int says below tokens rest
ValueBy kind.Float constant says below tokens rest = IsLiteral kind.Float float says below tokens rest
ValueBy kind.String constant says below tokens rest = IsLiteral kind.String string says below tokens rest
ValueBy kind.BlockString constant says below tokens rest = IsLiteral kind.BlockString string says below tokens rest
ValueBy kind.Name constant says below tokens rest = IsWordValue says below tokens rest
ValueBy kind.BracketOpen constant says below tokens rest = (a : Tokens) × IsPunctuator kind.BracketOpen tokens a × IsValues constant below a rest × (says ≡ list (covered tokens rest))
ValueBy kind.BraceOpen constant says below tokens rest = (a : Tokens) × IsPunctuator kind.BraceOpen tokens a × IsObjectFields constant below a rest × (says ≡ object (covered tokens rest))
ValueBy _ constant says below tokens rest = ⊥

keyword_is : {word : List ℕ} {place : Span} {tokens rest : Tokens} {says : Says Span} → IsKeyword word place tokens rest → IsWord word place says → IsWordValue says none tokens rest
keyword_is {word} {place} k w = record { name = record { text = word; place = place }; names = k; word = w; bare = refl }

-- the kind of a value's first token, and the value by it
pub record ByFirst (constant : Bool) (says : Says Span) (below : Vals Span) (tokens rest : Tokens) : Type 0 where
  pub first : Kind
  pub begins : Begins first tokens
  pub by : ValueBy first constant says below tokens rest

pub by_first : {constant : Bool} {says : Says Span} {below : Vals Span} {tokens rest : Tokens} → IsValue constant says below tokens rest → ByFirst constant says below tokens rest
by_first (a_variable {name = name} a free m n) = record { first = kind.Dollar; begins = punctuator_begins m; by = (name, free, record { behind = a; dollar = m; names = n }, refl, refl) }
by_first (an_int {text = text} {place = place} i) = record { first = kind.Int; begins = spelled_begins i; by = record { text = text; place = place; spelled = i; is = refl; bare = refl } }
by_first (a_float {text = text} {place = place} i) = record { first = kind.Float; begins = spelled_begins i; by = record { text = text; place = place; spelled = i; is = refl; bare = refl } }
by_first (a_string {text = text} {place = place} i) = record { first = kind.String; begins = spelled_begins i; by = record { text = text; place = place; spelled = i; is = refl; bare = refl } }
by_first (a_block_string {text = text} {place = place} i) = record { first = kind.BlockString; begins = spelled_begins i; by = record { text = text; place = place; spelled = i; is = refl; bare = refl } }
by_first (is_true k) = record { first = kind.Name; begins = spelled_begins k; by = keyword_is k (word_true refl) }
by_first (is_false k) = record { first = kind.Name; begins = spelled_begins k; by = keyword_is k (word_false refl) }
by_first (is_null k) = record { first = kind.Name; begins = spelled_begins k; by = keyword_is k (word_null refl) }
by_first (an_enum {name = name} n other) = record { first = kind.Name; begins = spelled_begins n; by = keyword_is n (word_enum other) }
by_first (a_list a m items) = record { first = kind.BracketOpen; begins = punctuator_begins m; by = (a, m, items, refl) }
by_first (an_object a m entries) = record { first = kind.BraceOpen; begins = punctuator_begins m; by = (a, m, entries, refl) }

-- a value whose first token is of this kind
pub value_by : (k : Kind) {constant : Bool} {says : Says Span} {below : Vals Span} {tokens rest : Tokens} → Begins k tokens → IsValue constant says below tokens rest → ValueBy k constant says below tokens rest
value_by k {constant} {says} {below} {tokens} {rest} begins v =
    let f = by_first v in
    subst (λ (j : Kind). ValueBy j constant says below tokens rest) (one_kind f.first k tokens f.begins begins) f.by

same_literal : {k : Kind} {make : List ℕ → Span → Says Span} {text : List ℕ} {place : Span} {says : Says Span} {below : Vals Span} {tokens other a b : Tokens} → IsSpelled k text place tokens a → tokens ≡ other → IsLiteral k make says below other b → (make text place ≡ says) × (none ≡ below) × (a ≡ b)
same_literal {make} {text} {place} h same l =
    let e = same_spelled h same l.spelled in
    (ap (λ (t : List ℕ). make t place) e.0 ∙ ap (make l.text) e.1 ∙ sym l.is, sym l.bare, e.2)

same_keyword : {word : List ℕ} {place : Span} {s says : Says Span} {below : Vals Span} {tokens other a b : Tokens} → IsKeyword word place tokens a → IsWord word place s → tokens ≡ other → IsWordValue says below other b → (s ≡ says) × (none ≡ below) × (a ≡ b)
same_keyword {word} {place} {s} h w same v =
    let e = same_spelled h same v.names in
    let W : List ℕ → Span → Type 0 = λ t p. IsWord t p s in
    (same_word (subst (λ (p : Span). W v.name.text p) e.1 (subst (λ (t : List ℕ). W t place) e.0 w)) v.word, sym v.bare, e.2)

-- no value begins with a closing bracket
pub value_or_close : {constant : Bool} {s : Says Span} {vs : Vals Span} {tokens a : Tokens} → IsValue constant s vs tokens a → Begins kind.BracketClose tokens → ⊥
value_or_close v b = value_by kind.BracketClose b v

mutual
  pub same_value : {constant : Bool} {s z : Says Span} {vs zs : Vals Span} {tokens other a b : Tokens} → IsValue constant s vs tokens a → tokens ≡ other → IsValue constant z zs other b → (s ≡ z) × (vs ≡ zs) × (a ≡ b)
  same_value (a_variable {name = name} {tokens = tokens} {rest = rest} a free m n) same v =
      let w = value_by kind.Dollar (moved _ same (punctuator_begins m)) v in
      let one : IsVariable name tokens rest = record { behind = a; dollar = m; names = n } in
      let e = same_variable one same w.2 in
      (cc, sym w.4, e.1)
  same_value (an_int i) same v = same_literal i same (value_by kind.Int (moved _ same (spelled_begins i)) v)
  same_value (a_float i) same v = same_literal i same (value_by kind.Float (moved _ same (spelled_begins i)) v)
  same_value (a_string i) same v = same_literal i same (value_by kind.String (moved _ same (spelled_begins i)) v)
  same_value (a_block_string i) same v = same_literal i same (value_by kind.BlockString (moved _ same (spelled_begins i)) v)
  same_value (is_true k) same v = same_keyword k (word_true refl) same (value_by kind.Name (moved _ same (spelled_begins k)) v)
  same_value (is_false k) same v = same_keyword k (word_false refl) same (value_by kind.Name (moved _ same (spelled_begins k)) v)
  same_value (is_null k) same v = same_keyword k (word_null refl) same (value_by kind.Name (moved _ same (spelled_begins k)) v)
  same_value (an_enum n other) same v = same_keyword n (word_enum other) same (value_by kind.Name (moved _ same (spelled_begins n)) v)
  same_value (a_list a m items) same v =
      let w = value_by kind.BracketOpen (moved _ same (punctuator_begins m)) v in
      let r = same_values items (same_punctuator m same w.1) w.2 in
      let e = w.3 in
      let f = r.1 in
      (cc, r.0, f)
  same_value (an_object a m entries) same v =
      let w = value_by kind.BraceOpen (moved _ same (punctuator_begins m)) v in
      let r = same_object_fields entries (same_punctuator m same w.1) w.2 in
      let e = w.3 in
      let f = r.1 in
      (cc, r.0, f)

  pub same_values : {constant : Bool} {vs zs : Vals Span} {tokens other a b : Tokens} → IsValues constant vs tokens a → tokens ≡ other → IsValues constant zs other b → (vs ≡ zs) × (a ≡ b)
  same_values (list_closed m) same (list_closed m2) = (refl, same_punctuator m same m2)
  same_values (list_closed m) same (an_item a2 v2 vs2) = absurd (value_or_close v2 (moved _ same (punctuator_begins m)))
  same_values (an_item a v vs) same (list_closed m2) = absurd (value_or_close v (moved _ (sym same) (punctuator_begins m2)))
  same_values (an_item a v vs) same (an_item a2 v2 vs2) =
      let e = same_value v same v2 in
      let r = same_values vs e.2 vs2 in
      let e0 = e.0 in
      let e1 = e.1 in
      let r0 = r.0 in
      (cc, r.1)

  pub same_object_fields : {constant : Bool} {vs zs : Vals Span} {tokens other a b : Tokens} → IsObjectFields constant vs tokens a → tokens ≡ other → IsObjectFields constant zs other b → (vs ≡ zs) × (a ≡ b)
  same_object_fields (object_closed m) same (object_closed m2) = (refl, same_punctuator m same m2)
  same_object_fields (object_closed m) same (an_object_field a2 b2 c2 n2 m2 v2 vs2) = absurd (let h = one_kind _ _ _ (spelled_begins n2) (moved _ same (punctuator_begins m)) in cc)
  same_object_fields (an_object_field a b c n m v vs) same (object_closed m2) = absurd (let h = one_kind _ _ _ (spelled_begins n) (moved _ (sym same) (punctuator_begins m2)) in cc)
  same_object_fields (an_object_field a b c n m v vs) same (an_object_field a2 b2 c2 n2 m2 v2 vs2) =
      let d = same_name n same n2 in
      let e = same_value v (same_punctuator m d.1 m2) v2 in
      let r = same_object_fields vs e.2 vs2 in
      let d0 = d.0 in
      let e0 = e.0 in
      let e1 = e.1 in
      let r0 = r.0 in
      (cc, r.1)

pub same_argument : {constant : Bool} {x y : Val Span} {tokens other a b : Tokens} → IsArgument constant x tokens a → tokens ≡ other → IsArgument constant y other b → (x ≡ y) × (a ≡ b)
same_argument (an_argument a b n m v) same (an_argument a2 b2 n2 m2 v2) =
    let d = same_name n same n2 in
    let e = same_value v (same_punctuator m d.1 m2) v2 in
    let d0 = d.0 in
    let e0 = e.0 in
    let e1 = e.1 in
    (cc, e.2)

pub unique_argument : (constant : Bool) → Unique (IsArgument constant)
unique_argument constant x y tokens other a b p same q = same_argument p same q

pub argument_or_close : (constant : Bool) → NeverBegins kind.ParenClose (IsArgument constant)
argument_or_close constant x tokens a (an_argument _ _ n m v) begins = absurd (let h = one_kind _ _ _ (spelled_begins n) begins in cc)

pub same_arguments : {constant : Bool} {xs ys : List (Val Span)} {tokens other a b : Tokens} → IsArguments constant xs tokens a → tokens ≡ other → IsArguments constant ys other b → (xs ≡ ys) × (a ≡ b)
same_arguments {constant} = same_enclosed (unique_argument constant) (argument_or_close constant)

pub same_directives : {constant : Bool} {xs ys : List (DirectiveOf Span)} {tokens other a b : Tokens} → IsDirectives constant xs tokens a → tokens ≡ other → IsDirectives constant ys other b → (xs ≡ ys) × (a ≡ b)
same_directives (no_directive free) same (no_directive free2) = (refl, same)
same_directives (no_directive free) same (a_directive a2 b2 c2 m2 n2 r2 ds2) = absurd (not_next _ _ free (moved _ (sym same) (punctuator_begins m2)))
same_directives (a_directive a b c m n r ds) same (no_directive free2) = absurd (not_next _ _ free2 (moved _ same (punctuator_begins m)))
same_directives (a_directive a b c m n r ds) same (a_directive a2 b2 c2 m2 n2 r2 ds2) =
    let d = same_name n (same_punctuator m same m2) n2 in
    let e = same_arguments r d.1 r2 in
    let t = same_directives ds e.1 ds2 in
    let d0 = d.0 in
    let e0 = e.0 in
    let e1 = e.1 in
    let t0 = t.0 in
    (cc, t.1)

mutual
  pub same_type : {t u : TypeOf Span} {tokens other a b : Tokens} → IsType t tokens a → tokens ≡ other → IsType u other b → (t ≡ u) × (a ≡ b)
  same_type (nullable t free) same (nullable t2 free2) = same_nullable t same t2
  same_type (nullable t free) same (without_null a2 t2 m2) = absurd (not_next _ _ free (moved _ (sym (same_nullable t same t2).1) (punctuator_begins m2)))
  same_type (without_null a t m) same (nullable t2 free2) = absurd (not_next _ _ free2 (moved _ (same_nullable t same t2).1 (punctuator_begins m)))
  same_type (without_null a t m) same (without_null a2 t2 m2) =
      let e = same_nullable t same t2 in
      (ap (λ (x : TypeOf Span). non_null x) e.0, same_punctuator m e.1 m2)

  pub same_nullable : {t u : TypeOf Span} {tokens other a b : Tokens} → IsNullableType t tokens a → tokens ≡ other → IsNullableType u other b → (t ≡ u) × (a ≡ b)
  same_nullable (named_type n) same (named_type n2) = let e = same_name n same n2 in (ap (λ (x : NameOf Span). named x) e.0, e.1)
  same_nullable (named_type n) same (list_type a2 b2 m2 t2 k2) = absurd (let h = one_kind _ _ _ (moved _ same (spelled_begins n)) (punctuator_begins m2) in cc)
  same_nullable (list_type a b m t k) same (named_type n2) = absurd (let h = one_kind _ _ _ (moved _ same (punctuator_begins m)) (spelled_begins n2) in cc)
  same_nullable (list_type a b m t k) same (list_type a2 b2 m2 t2 k2) =
      let e = same_type t (same_punctuator m same m2) t2 in
      (ap (λ (x : TypeOf Span). list_of x) e.0, same_punctuator k e.1 k2)

pub same_default : {x y : Option (Val Span)} {tokens other a b : Tokens} → IsDefaultValue x tokens a → tokens ≡ other → IsDefaultValue y other b → (x ≡ y) × (a ≡ b)
same_default (no_default free) same (no_default free2) = (refl, same)
same_default (no_default free) same (a_default a2 m2 v2) = absurd (not_next _ _ free (moved _ (sym same) (punctuator_begins m2)))
same_default (a_default a m v) same (no_default free2) = absurd (not_next _ _ free2 (moved _ same (punctuator_begins m)))
same_default (a_default a m v) same (a_default a2 m2 v2) =
    let e = same_value v (same_punctuator m same m2) v2 in
    let e0 = e.0 in
    let e1 = e.1 in
    (cc, e.2)

pub same_variable_definition : {x y : VariableOf Span} {tokens other a b : Tokens} → IsVariableDefinition x tokens a → tokens ≡ other → IsVariableDefinition y other b → (x ≡ y) × (a ≡ b)
same_variable_definition (a_variable_definition a b c d e m n k t v ds) same (a_variable_definition a2 b2 c2 d2 e2 m2 n2 k2 t2 v2 ds2) =
    let p = same_name n (same_punctuator m same m2) n2 in
    let q = same_type t (same_punctuator k p.1 k2) t2 in
    let r = same_default v q.1 v2 in
    let s = same_directives ds r.1 ds2 in
    let p0 = p.0 in
    let p1 = p.1 in
    let q0 = q.0 in
    let r0 = r.0 in
    let s0 = s.0 in
    (cc, s.1)

pub unique_variable_definition : Unique IsVariableDefinition
unique_variable_definition x y tokens other a b p same q = same_variable_definition p same q

pub variable_definition_or_close : NeverBegins kind.ParenClose IsVariableDefinition
variable_definition_or_close x tokens a (a_variable_definition _ _ _ _ _ m n k t v ds) begins = absurd (let h = one_kind _ _ _ (punctuator_begins m) begins in cc)

pub same_variable_definitions : {xs ys : List (VariableOf Span)} {tokens other a b : Tokens} → IsVariableDefinitions xs tokens a → tokens ≡ other → IsVariableDefinitions ys other b → (xs ≡ ys) × (a ≡ b)
same_variable_definitions = same_enclosed unique_variable_definition variable_definition_or_close

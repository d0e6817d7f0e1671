-- Where tokens are a phrase, the same tokens with names changed are the phrase with those names changed.
use Rattle.std.proofs.Common.{◌≡◌, ℕ, List, [], ◌∷◌, ◌++◌, Bool, true, false, Option, Some, None, refl, sym, ap, subst, ◌∙◌, append_assoc, append-nil, map}
use Rattle.std.specs.Prelude.{if◌then◌else◌, codes}
use Rattle.std.specs.List.{flat_map}
use Rattle.std.specs.Option.{option_map}
use Rattle.std.proofs.lemmas.List.{map-append}
use Rattle.std.proofs.lemmas.Grind.{flat_map-append}
use Rattle.gq_text.specs.declared.place.Span.{Span}
use Rattle.gq_lex.specs.declared.token.Kind.{Kind}
use Rattle.gq_lex.specs.Tokens.{Lexeme}
use Rattle.gq_tree.specs.declared.tree.OperationKind.{OperationKind}
use Rattle.gq_lex.specs.declared.token.Kind.TheVariants as kind
use Rattle.gq_tree.specs.Forest.{none, more, labels, labels_in, relabel}
use Rattle.gq_tree.specs.Plain.{NameOf, Says, Part, Val, Vals, variable, int, float, string, boolean, null, enum, list, object, under, unnamed, DirectiveOf, TypeOf, named, list_of, non_null, VariableOf, Head, Sels, Def, field, spread, inline, place_name, place_says, place_part, place_value, place_directive, place_type, place_variable, place_head, place_def, no_place, erase_all}
use Rattle.gq_parse.specs.Grammar.{Tokens, IsSpelled, IsName, IsPunctuator, IsFragmentName, IsTypeCondition, IsOptionalCondition, no_condition, a_condition, NotNext, covered, ManyUntil, closed, another, OptionalMany, absent, enclosed, IsValue, a_variable, an_int, a_float, a_string, a_block_string, is_true, is_false, is_null, an_enum, a_list, an_object, IsValues, list_closed, an_item, IsObjectFields, object_closed, an_object_field, IsArgument, an_argument, IsArguments, IsDirectives, no_directive, a_directive, IsType, nullable, without_null, IsNullableType, named_type, list_type, IsDefaultValue, no_default, a_default, IsVariableDefinition, a_variable_definition, IsVariableDefinitions, IsFieldName, no_alias, alias, IsSelection, a_field, a_spread, an_inline, IsOptionalSet, no_set, a_set, IsSelectionSet, braces, IsSelections, set_closed, selection, IsOptionalName, no_name, a_name, IsOperationType, a_query, a_mutation, a_subscription}
use Rattle.gq_renamed.specs.Renamings.{Renaming, nothing_renamed, renamed_text, MayName}
use Rattle.gq_renamed.specs.Renamed.{rename_says, rename_part, rename_value, rename_directive, rename_definition, rename_head, rename_selections}
use Rattle.gq_renamed.specs.Changed.{changed_name, changed_in_says, changed_in_part, changed_in_values, changed_in_value, changed_in_arguments, changed_in_directives, changed_in_head, changed_in_selections}
use Rattle.gq_renamed.proofs.Retelling.{Marked, tokens_of, Retold, MarksNames, text_by}

-- the first tokens are of one kind, or neither list has one
abbrev pub SameNext : Tokens → Tokens → Type 0
SameNext [] [] = Unit {0}
SameNext [] (u ∷ us) = ⊥
SameNext (t ∷ ts) [] = ⊥
SameNext (t ∷ ts) (u ∷ us) = u.kind ≡ t.kind

abbrev pub name_in : Lexeme → NameOf Span
name_in t = record { text = t.text; place = t.span }

-- the marked tokens, as names
abbrev pub marked_names : List Marked → List (NameOf Span)
marked_names [] = []
marked_names (m ∷ ms) = if m.marked then name_in m.token ∷ marked_names ms else marked_names ms

-- The tokens up to a rest, those of these names marked; with new text at the marks, and another rest that begins alike, they are
-- what Q says.
pub record Again (new : List ℕ) (names : List (NameOf Span)) (Q : Tokens → Tokens → Type 0) (tokens rest : Tokens) : Type 0 where
  pub front : List Marked
  pub split : tokens ≡ tokens_of front ++ rest
  pub named : marked_names front ≡ names
  pub marks : MarksNames front
  pub again : (us after : Tokens) → Retold new front us → SameNext rest after → Q (us ++ after) after

-- a list that retells two parts is cut between them
pub record CutRetold (new : List ℕ) (f g : List Marked) (us : Tokens) : Type 0 where
  pub first : Tokens
  pub second : Tokens
  pub whole : us ≡ first ++ second
  pub retold : Retold new f first
  pub rest : Retold new g second

pub cut_retold : (new : List ℕ) (f g : List Marked) (us : Tokens) → Retold new (f ++ g) us → CutRetold new f g us
cut_retold new [] g us h = record { first = []; second = us; whole = refl; retold = tt; rest = h }
cut_retold new (m ∷ f) g [] h = absurd h
cut_retold new (m ∷ f) g (u ∷ us) h =
    let c = cut_retold new f g us h.2 in
    record { first = u ∷ c.first; second = c.second; whole = ap (λ (l : Tokens). u ∷ l) c.whole; retold = (h.0, h.1, c.retold); rest = c.rest }

pub next_kept : (new : List ℕ) (f : List Marked) (us rest after : Tokens) → Retold new f us → SameNext rest after → SameNext (tokens_of f ++ rest) (us ++ after)
next_kept new [] [] rest after h s = s
next_kept new [] (u ∷ us) rest after h s = absurd h
next_kept new (m ∷ f) [] rest after h s = absurd h
next_kept new (m ∷ f) (u ∷ us) rest after h s = h.0

pub marked_append : (f g : List Marked) → marked_names (f ++ g) ≡ marked_names f ++ marked_names g
marked_append [] g = refl
marked_append (m ∷ f) g = by_mark m.marked (name_in m.token) (marked_names f) (marked_names g) (marked_names (f ++ g)) (marked_append f g)
  where
    by_mark : (b : Bool) (n : NameOf Span) (x y z : List (NameOf Span)) → z ≡ x ++ y → (if b then n ∷ z else z) ≡ (if b then n ∷ x else x) ++ y
    by_mark true n x y z e = ap (λ (l : List (NameOf Span)). n ∷ l) e
    by_mark false n x y z e = e

pub marks_append : (f g : List Marked) → MarksNames f → MarksNames g → MarksNames (f ++ g)
marks_append [] g h k = k
marks_append (m ∷ f) g h k = (h.0, marks_append f g h.1 k)

-- one part and then another
abbrev pub Then : (Tokens → Tokens → Type 0) → (Tokens → Tokens → Type 0) → Tokens → Tokens → Type 0
Then Q R x y = (m : Tokens) × Q x m × R m y

pub joined : {new : List ℕ} {m n : List (NameOf Span)} {Q R : Tokens → Tokens → Type 0} {tokens a rest : Tokens} → Again new m Q tokens a → Again new n R a rest → Again new (m ++ n) (Then Q R) tokens rest
joined {new} {m} {n} {Q} {R} {tokens} {a} {rest} v w = record {
  front = v.front ++ w.front;
  split = v.split ∙ ap (λ (l : Tokens). tokens_of v.front ++ l) w.split ∙ sym (append_assoc (tokens_of v.front) (tokens_of w.front) rest) ∙ ap (λ (l : Tokens). l ++ rest) (sym (map-append (λ (m : Marked). m.token) v.front w.front));
  named = marked_append v.front w.front ∙ ap (λ (l : List (NameOf Span)). l ++ marked_names w.front) v.named ∙ ap (λ (l : List (NameOf Span)). m ++ l) w.named;
  marks = marks_append v.front w.front v.marks w.marks;
  again = λ us after r s.
      let c = cut_retold new v.front w.front us r in
      let P : Tokens → Type 0 = λ l. SameNext l (c.second ++ after) in
      let next : SameNext a (c.second ++ after) = subst P (sym w.split) (next_kept new w.front c.second rest after c.rest s) in
      let first = v.again c.first (c.second ++ after) c.retold next in
      let second = w.again c.second after c.rest s in
      let whole : us ++ after ≡ c.first ++ (c.second ++ after) = ap (λ (l : Tokens). l ++ after) c.whole ∙ append_assoc c.first c.second after in
      let S : Tokens → Type 0 = λ l. Q l (c.second ++ after) in
      (c.second ++ after, subst S (sym whole) first, second);
}

pub changed : {new : List ℕ} {n : List (NameOf Span)} {Q R : Tokens → Tokens → Type 0} {tokens rest : Tokens} → ((x y : Tokens) → Q x y → R x y) → Again new n Q tokens rest → Again new n R tokens rest
changed f w = record { front = w.front; split = w.split; named = w.named; marks = w.marks; again = λ us after r s. f (us ++ after) after (w.again us after r s) }

-- nothing is read, and the next token is of another kind
abbrev pub Peeks : Kind → Tokens → Tokens → Type 0
Peeks k x y = (x ≡ y) × NotNext k x

peek_kept : (k : Kind) (rest after : Tokens) → SameNext rest after → NotNext k rest → NotNext k after
peek_kept k [] [] s h = tt
peek_kept k [] (u ∷ us) s h = absurd s
peek_kept k (t ∷ ts) [] s h = absurd s
peek_kept k (t ∷ ts) (u ∷ us) s h = λ e. h (sym s ∙ e)

pub none_retold : (new : List ℕ) (us after : Tokens) → Retold new [] us → us ++ after ≡ after
none_retold new [] after h = refl
none_retold new (u ∷ us) after h = absurd h

pub peeked : {new : List ℕ} {k : Kind} {tokens : Tokens} → NotNext k tokens → Again new [] (Peeks k) tokens tokens
peeked {new = new} {k} {tokens} h = record {
  front = [];
  split = refl;
  named = refl;
  marks = tt;
  again = λ us after r s.
      let e = none_retold new us after r in
      let P : Tokens → Type 0 = λ l. NotNext k l in
      (e, subst P (sym e) (peek_kept k tokens after s h));
}

pub nothing : {new : List ℕ} {tokens : Tokens} → Again new [] (λ x y. x ≡ y) tokens tokens
nothing {new = new} = record { front = []; split = refl; named = refl; marks = tt; again = λ us after r s. none_retold new us after r }

-- one token, marked or not
pub record One (new : List ℕ) (m : Marked) (us : Tokens) : Type 0 where
  pub token : Lexeme
  pub only : us ≡ token ∷ []
  pub kind : token.kind ≡ m.token.kind
  pub text : token.text ≡ text_by m.marked new m.token.text

one_retold : (new : List ℕ) (m : Marked) (us : Tokens) → Retold new (m ∷ []) us → One new m us
one_retold new m [] h = absurd h
one_retold new m (u ∷ []) h = record { token = u; only = refl; kind = h.0; text = h.1 }
one_retold new m (u ∷ v ∷ us) h = absurd h.2

pub marked_again : {new : List ℕ} {k : Kind} {tokens rest : Tokens} → IsPunctuator k tokens rest → Again new [] (IsPunctuator k) tokens rest
marked_again {new = new} {k} h =
    let m : Marked = record { token = h.token; marked = false } in
    record {
      front = m ∷ [];
      split = h.first;
      named = refl;
      marks = (λ e. absurd (cc), tt);
      again = λ us after r s.
          let o = one_retold new m us r in
          record { token = o.token; first = ap (λ (l : Tokens). l ++ after) o.only; kind = o.kind ∙ h.kind };
    }

-- a token of this kind and spelling, somewhere
abbrev pub Spelled : Kind → List ℕ → Tokens → Tokens → Type 0
Spelled k text x y = (p : Span) × IsSpelled k text p x y

pub kept_again : {new : List ℕ} {k : Kind} {text : List ℕ} {p : Span} {tokens rest : Tokens} → IsSpelled k text p tokens rest → Again new [] (Spelled k text) tokens rest
kept_again {new = new} {k} h =
    let m : Marked = record { token = h.token; marked = false } in
    record {
      front = m ∷ [];
      split = h.first;
      named = refl;
      marks = (λ e. absurd (cc), tt);
      again = λ us after r s.
          let o = one_retold new m us r in
          (o.token.span, record { token = o.token; first = ap (λ (l : Tokens). l ++ after) o.only; kind = o.kind ∙ h.kind; spelling = h.spelling ∙ sym o.text; span = refl });
    }

pub renamed_again : {new : List ℕ} (is_renamed : List ℕ → Bool) {n : NameOf Span} {tokens rest : Tokens} → IsName n tokens rest → Again new (changed_name is_renamed n) (Spelled kind.Name (renamed_text is_renamed new n.text)) tokens rest
renamed_again {new} is_renamed {n} h =
    let m : Marked = record { token = h.token; marked = is_renamed n.text } in
    let is : name_in h.token ≡ n = ap (λ (t : List ℕ). let x : NameOf Span = record { text = t; place = h.token.span } in x) (sym h.spelling) ∙ ap (λ (p : Span). let x : NameOf Span = record { text = n.text; place = p } in x) (sym h.span) in
    record {
      front = m ∷ [];
      split = h.first;
      named = ap (λ (x : NameOf Span). if is_renamed n.text then x ∷ [] else []) is;
      marks = (λ e. h.kind, tt);
      again = λ us after r s.
          let o = one_retold new m us r in (
            o.token.span,
            record {
              token = o.token;
              first = ap (λ (l : Tokens). l ++ after) o.only;
              kind = o.kind ∙ h.kind;
              spelling = ap (λ (t : List ℕ). if is_renamed n.text then new else t) h.spelling ∙ sym o.text;
              span = refl;
            },
          );
    }

-- what is changed, selection by selection and value by value
pub selections_more : {P : Type 0} (r : Renaming) (h : Head P) (b ss : Sels P) → changed_in_selections r (more h b ss) ≡ (changed_in_head r h ++ changed_in_selections r b) ++ changed_in_selections r ss
selections_more {P} r h b ss = ap (λ (l : List (NameOf P)). changed_in_head r h ++ l) (flat_map-append (changed_in_head r) (labels b) (labels ss)) ∙ sym (append_assoc (changed_in_head r h) (changed_in_selections r b) (changed_in_selections r ss))

pub values_more : {P : Type 0} (r : Renaming) (p : Part P) (b vs : Vals P) → changed_in_values r (more p b vs) ≡ (changed_in_part r p ++ changed_in_values r b) ++ changed_in_values r vs
values_more {P} r p b vs = ap (λ (l : List (NameOf P)). changed_in_part r p ++ l) (flat_map-append (changed_in_part r) (labels b) (labels vs)) ∙ sym (append_assoc (changed_in_part r p) (changed_in_values r b) (changed_in_values r vs))

pub with_names : {new : List ℕ} {m n : List (NameOf Span)} {Q : Tokens → Tokens → Type 0} {tokens rest : Tokens} → m ≡ n → Again new m Q tokens rest → Again new n Q tokens rest
with_names {new} {Q = Q} {tokens} {rest} e w = let P : List (NameOf Span) → Type 0 = λ l. Again new l Q tokens rest in subst P e w

-- places forgotten
abbrev pub plain_name : NameOf Span → NameOf (Unit {0})
plain_name n = place_name no_place n

abbrev pub plain_says : Says Span → Says (Unit {0})
plain_says s = place_says no_place s

abbrev pub plain_values : Vals Span → Vals (Unit {0})
plain_values vs = relabel (place_part no_place) vs

abbrev pub plain_value : Val Span → Val (Unit {0})
plain_value v = place_value no_place v

abbrev pub plain_directive : DirectiveOf Span → DirectiveOf (Unit {0})
plain_directive d = place_directive no_place d

abbrev pub plain_type : TypeOf Span → TypeOf (Unit {0})
plain_type t = place_type no_place t

abbrev pub plain_variable : VariableOf Span → VariableOf (Unit {0})
plain_variable v = place_variable no_place v

abbrev pub plain_head : Head Span → Head (Unit {0})
plain_head h = place_head no_place h

abbrev pub plain_def : Def Span → Def (Unit {0})
plain_def d = place_def no_place d

abbrev pub there : Option Span → Option (Unit {0})
there o = option_map no_place o

-- a phrase whose tree is like this one, as f sees trees
abbrev pub Like : {A B : Type 0} → (A → Tokens → Tokens → Type 0) → (A → B) → A → Tokens → Tokens → Type 0
Like {A} X f x u v = (x' : A) × X x' u v × (f x' ≡ f x)

-- each phrase of a kind, with no name in it that is changed, is read again
abbrev pub AllKept : {A B : Type 0} → List ℕ → (A → Tokens → Tokens → Type 0) → (A → B) → Type 0
AllKept {A} new X f = (x : A) (tokens rest : Tokens) → X x tokens rest → Again new [] (Like X f x) tokens rest

-- a phrase whose tree is this one with names changed: f forgets places, and g changes names
abbrev pub Renamed : {A B : Type 0} → (A → Tokens → Tokens → Type 0) → (A → B) → (B → B) → A → Tokens → Tokens → Type 0
Renamed {A} X f g x u v = (x' : A) × X x' u v × (f x' ≡ g (f x))

-- each phrase of a kind is read again
abbrev pub AllRenamed : {A B : Type 0} → List ℕ → (A → List (NameOf Span)) → (A → Tokens → Tokens → Type 0) → (A → B) → (B → B) → Type 0
AllRenamed {A} new names X f g = (x : A) (tokens rest : Tokens) → X x tokens rest → Again new (names x) (Renamed X f g x) tokens rest

-- a Name
pub named_again : {new : List ℕ} {n : NameOf Span} {tokens rest : Tokens} → IsName n tokens rest → Again new [] (Like IsName plain_name n) tokens rest
named_again {n = n} h = changed (λ x y q. (record { text = n.text; place = q.0 }, q.1, refl)) (kept_again h)

-- nothing, where a part is optional
pub skipped : {new : List ℕ} {A B : Type 0} {X : A → Tokens → Tokens → Type 0} {f : A → B} {k : Kind} {tokens : Tokens} (x : A) → ((u : Tokens) → NotNext k u → X x u u) → NotNext k tokens → Again new [] (Like X f x) tokens tokens
skipped {X = X} {f} x one free = changed (λ u v q. let P : Tokens → Type 0 = λ l. X x u l in (x, subst P q.0 (one u q.1), refl)) (peeked free)

-- phrases and the punctuator that closes them
closed_again : {new : List ℕ} {A B : Type 0} {names : A → List (NameOf Span)} {X : A → Tokens → Tokens → Type 0} {f : A → B} (g : B → B) {k : Kind} {xs : List A} {tokens rest : Tokens} → AllRenamed new names X f g → ManyUntil X k xs tokens rest → Again new (flat_map names xs) (Renamed (ManyUntil X k) (map f) (map g) xs) tokens rest
closed_again g each (closed m) = changed (λ u v q. ([], closed q, refl)) (marked_again m)
closed_again {X = X} {f} g {tokens = tokens} each (another {x = x} {xs = xs} a one others) =
    changed (λ u v q. (q.1.0 ∷ q.2.0, another q.0 q.1.1 q.2.1, let e = q.1.2 in let d = q.2.2 in cc)) (joined (each x tokens a one) (closed_again {f = f} g each others))

enclose : {A B : Type 0} {X : A → Tokens → Tokens → Type 0} {f : A → B} (g : B → B) {k j : Kind} {u v w : Tokens} (x : A) (xs ys : List A) → IsPunctuator k u v → ManyUntil X j ys v w → map f ys ≡ map g (f x ∷ map f xs) → Renamed (OptionalMany X k j) (map f) (map g) (x ∷ xs) u w
enclose g x xs [] m c e = absurd (cc)
enclose g {v = v} x xs (y ∷ ys) m c e = (y ∷ ys, enclosed v m c, e)

pub enclosed_renamed : {new : List ℕ} {A B : Type 0} {names : A → List (NameOf Span)} {X : A → Tokens → Tokens → Type 0} {f : A → B} (g : B → B) {k j : Kind} {xs : List A} {tokens rest : Tokens} → AllRenamed new names X f g → OptionalMany X k j xs tokens rest → Again new (flat_map names xs) (Renamed (OptionalMany X k j) (map f) (map g) xs) tokens rest
enclosed_renamed {X = X} {f} g {k} {j} each (absent free) = changed (λ u v q. let P : Tokens → Type 0 = λ l. OptionalMany X k j [] u l in ([], subst P q.0 (absent q.1), refl)) (peeked free)
enclosed_renamed {X = X} {f} g {k} {j} each (enclosed {x = x} {xs = xs} a m c) =
    changed (λ u v q. enclose g x xs q.2.0 q.1 q.2.1 q.2.2) (joined (marked_again m) (closed_again {f = f} g each c))

-- the same where nothing is changed
closed_kept : {new : List ℕ} {A B : Type 0} {X : A → Tokens → Tokens → Type 0} {f : A → B} {k : Kind} {xs : List A} {tokens rest : Tokens} → AllKept new X f → ManyUntil X k xs tokens rest → Again new [] (Like (ManyUntil X k) (map f) xs) tokens rest
closed_kept each (closed m) = changed (λ u v q. ([], closed q, refl)) (marked_again m)
closed_kept {X = X} {f} {tokens = tokens} each (another {x = x} {xs = xs} a one others) =
    changed (λ u v q. (q.1.0 ∷ q.2.0, another q.0 q.1.1 q.2.1, let e = q.1.2 in let d = q.2.2 in cc)) (joined (each x tokens a one) (closed_kept {f = f} each others))

enclose_kept : {A B : Type 0} {X : A → Tokens → Tokens → Type 0} {f : A → B} {k j : Kind} {u v w : Tokens} (x : A) (xs ys : List A) → IsPunctuator k u v → ManyUntil X j ys v w → map f ys ≡ f x ∷ map f xs → Like (OptionalMany X k j) (map f) (x ∷ xs) u w
enclose_kept x xs [] m c e = absurd (cc)
enclose_kept {v = v} x xs (y ∷ ys) m c e = (y ∷ ys, enclosed v m c, e)

pub enclosed_again : {new : List ℕ} {A B : Type 0} {X : A → Tokens → Tokens → Type 0} {f : A → B} {k j : Kind} {xs : List A} {tokens rest : Tokens} → AllKept new X f → OptionalMany X k j xs tokens rest → Again new [] (Like (OptionalMany X k j) (map f) xs) tokens rest
enclosed_again {X = X} {f} {k} {j} each (absent free) = skipped {X = OptionalMany X k j} {f = map f} [] (λ u h. absent h) free
enclosed_again {X = X} {f} {k} {j} each (enclosed {x = x} {xs = xs} a m c) =
    changed (λ u v q. enclose_kept x xs q.2.0 q.1 q.2.1 q.2.2) (joined (marked_again m) (closed_kept {f = f} each c))

-- a value, values in brackets, fields in braces
abbrev pub ValueRenamed : Renaming → List ℕ → Bool → Says Span → Vals Span → Tokens → Tokens → Type 0
ValueRenamed r new constant says below x y = (s : Says Span) × (b : Vals Span) × IsValue constant s b x y × (plain_says s ≡ rename_says r new (plain_says says)) × (plain_values b ≡ relabel (rename_part r new) (plain_values below))

abbrev pub ValuesRenamed : Renaming → List ℕ → (Vals Span → Tokens → Tokens → Type 0) → Vals Span → Tokens → Tokens → Type 0
ValuesRenamed r new X vs = Renamed X plain_values (relabel (rename_part r new)) vs

mutual
  value_again : {new : List ℕ} (r : Renaming) {constant : Bool} {says : Says Span} {below : Vals Span} {tokens rest : Tokens} → IsValue constant says below tokens rest → Again new (changed_in_says r says ++ changed_in_values r below) (ValueRenamed r new constant says below) tokens rest
  value_again {new} r (a_variable {name = name} a free m n) =
      with_names (sym (append-nil (changed_name r.variables name)))
      (changed (λ x y q. (variable (record { text = renamed_text r.variables new name.text; place = q.2.0 }) (covered x y), none, a_variable q.0 free q.1 q.2.1, refl, refl)) (joined (marked_again m) (renamed_again r.variables n)))
  value_again r (an_int {text = text} h) = changed (λ x y q. (int text q.0, none, an_int q.1, refl, refl)) (kept_again h)
  value_again r (a_float {text = text} h) = changed (λ x y q. (float text q.0, none, a_float q.1, refl, refl)) (kept_again h)
  value_again r (a_string {text = text} h) = changed (λ x y q. (string text q.0, none, a_string q.1, refl, refl)) (kept_again h)
  value_again r (a_block_string {text = text} h) = changed (λ x y q. (string text q.0, none, a_block_string q.1, refl, refl)) (kept_again h)
  value_again r (is_true h) = changed (λ x y q. (boolean true q.0, none, is_true q.1, refl, refl)) (kept_again h)
  value_again r (is_false h) = changed (λ x y q. (boolean false q.0, none, is_false q.1, refl, refl)) (kept_again h)
  value_again r (is_null h) = changed (λ x y q. (null q.0, none, is_null q.1, refl, refl)) (kept_again h)
  value_again r (an_enum {name = name} h other) = changed (λ x y q. (enum (record { text = name.text; place = q.0 }), none, an_enum q.1 other, refl, refl)) (kept_again h)
  value_again r (a_list a m vs) = changed (λ x y q. (list (covered x y), q.2.0, a_list q.0 q.1 q.2.1, refl, q.2.2)) (joined (marked_again m) (values_again r vs))
  value_again r (an_object a m vs) = changed (λ x y q. (object (covered x y), q.2.0, an_object q.0 q.1 q.2.1, refl, q.2.2)) (joined (marked_again m) (fields_again r vs))

  values_again : {new : List ℕ} (r : Renaming) {constant : Bool} {vs : Vals Span} {tokens rest : Tokens} → IsValues constant vs tokens rest → Again new (changed_in_values r vs) (ValuesRenamed r new (IsValues constant) vs) tokens rest
  values_again r (list_closed m) = changed (λ x y q. (none, list_closed q, refl)) (marked_again m)
  values_again r (an_item {says = says} {below = below} {vs = vs} a v others) =
      with_names (sym (values_more r (record { key = None; says = says }) below vs))
      (changed (λ x y q. (
        more (record { key = None; says = q.1.0 }) q.1.1 q.2.0,
        an_item q.0 q.1.2 q.2.1,
        let s = q.1.3 in let b = q.1.4 in let r = q.2.2 in cc,
      ))
      (joined (value_again r v) (values_again r others)))

  fields_again : {new : List ℕ} (r : Renaming) {constant : Bool} {vs : Vals Span} {tokens rest : Tokens} → IsObjectFields constant vs tokens rest → Again new (changed_in_values r vs) (ValuesRenamed r new (IsObjectFields constant) vs) tokens rest
  fields_again r (object_closed m) = changed (λ x y q. (none, object_closed q, refl)) (marked_again m)
  fields_again r (an_object_field {name = name} {says = says} {below = below} {vs = vs} a b c n m v others) =
      with_names (sym (values_more r (record { key = Some name; says = says }) below vs))
      (changed (λ x y q.
      let p = q.2.2 in (
        more (record { key = Some (record { text = name.text; place = q.1.0 }); says = p.1.0 }) p.1.1 p.2.0,
        an_object_field q.0 q.2.0 p.0 q.1.1 q.2.1 p.1.2 p.2.1,
        let s = p.1.3 in let b = p.1.4 in let r = p.2.2 in cc,
      ))
      (joined (kept_again n) (joined (marked_again m) (joined (value_again r v) (fields_again r others)))))

-- arguments
argument_again : {new : List ℕ} (r : Renaming) {constant : Bool} {v : Val Span} {tokens rest : Tokens} → IsArgument constant v tokens rest → Again new (changed_in_value r v) (Renamed (IsArgument constant) plain_value (rename_value r new) v) tokens rest
argument_again r (an_argument {name = name} {says = says} {below = below} a b n m v) =
    changed (λ x y q.
    let p = q.2.2 in (
      under (record { text = name.text; place = q.1.0 }) (unnamed p.0 p.1),
      an_argument q.0 q.2.0 q.1.1 q.2.1 p.2,
      let s = p.3 in let b = p.4 in cc,
    ))
    (joined (kept_again n) (joined (marked_again m) (value_again r v)))

arguments_again : {new : List ℕ} (r : Renaming) {constant : Bool} {vs : List (Val Span)} {tokens rest : Tokens} → IsArguments constant vs tokens rest → Again new (changed_in_arguments r vs) (Renamed (IsArguments constant) (map plain_value) (map (rename_value r new)) vs) tokens rest
arguments_again {new} r {constant} h = enclosed_renamed {f = plain_value} (rename_value r new) (λ x t rest one. argument_again r one) h

-- directives
pub directives_again : {new : List ℕ} (r : Renaming) {constant : Bool} {ds : List (DirectiveOf Span)} {tokens rest : Tokens} → IsDirectives constant ds tokens rest → Again new (changed_in_directives r ds) (Renamed (IsDirectives constant) (map plain_directive) (map (rename_directive r new)) ds) tokens rest
directives_again r {constant = constant} (no_directive free) = changed (λ u v q. let P : Tokens → Type 0 = λ l. IsDirectives constant [] u l in ([], subst P q.0 (no_directive q.1), refl)) (peeked free)
directives_again {new} r (a_directive {name = name} {arguments = vs} {ds = ds} a b c m n args others) =
    changed (λ x y q.
    let w = q.2.1 in
    let p = q.2.2 in (
      record { name = record { text = name.text; place = w.0 }; arguments = p.1.0; place = covered x p.0 } ∷ p.2.0,
      a_directive q.0 q.2.0 p.0 q.1 w.1 p.1.1 p.2.1,
      let e = p.1.2 in let d = p.2.2 in cc,
    ))
    (joined (marked_again m) (joined (kept_again n) (joined (arguments_again r args) (directives_again r others))))

-- where nothing is changed
says_kept : (new : List ℕ) (s : Says (Unit {0})) → rename_says nothing_renamed new s ≡ s
says_kept new (variable name place) = refl
says_kept new (int text place) = refl
says_kept new (float text place) = refl
says_kept new (string text place) = refl
says_kept new (boolean value place) = refl
says_kept new (null place) = refl
says_kept new (enum name) = refl
says_kept new (list place) = refl
says_kept new (object place) = refl

part_kept : (new : List ℕ) (p : Part (Unit {0})) → rename_part nothing_renamed new p ≡ p
part_kept new p = ap (λ (s : Says (Unit {0})). let q : Part (Unit {0}) = record { key = p.key; says = s } in q) (says_kept new p.says)

values_kept : (new : List ℕ) (vs : Vals (Unit {0})) → relabel (rename_part nothing_renamed new) vs ≡ vs
values_kept new none = refl
values_kept new (more p b r) =
    ap (λ (q : Part (Unit {0})). more q (relabel (rename_part nothing_renamed new) b) (relabel (rename_part nothing_renamed new) r)) (part_kept new p)
    ∙ ap (λ (vs : Vals (Unit {0})). more p vs (relabel (rename_part nothing_renamed new) r)) (values_kept new b)
    ∙ ap (λ (vs : Vals (Unit {0})). more p b vs) (values_kept new r)

value_kept : (new : List ℕ) (v : Val (Unit {0})) → rename_value nothing_renamed new v ≡ v
value_kept new v =
    ap (λ (p : Part (Unit {0})). let w : Val (Unit {0}) = record { label = p; below = relabel (rename_part nothing_renamed new) v.below } in w) (part_kept new v.label)
    ∙ ap (λ (vs : Vals (Unit {0})). let w : Val (Unit {0}) = record { label = v.label; below = vs } in w) (values_kept new v.below)

arguments_kept : (new : List ℕ) (vs : List (Val (Unit {0}))) → map (rename_value nothing_renamed new) vs ≡ vs
arguments_kept new [] = refl
arguments_kept new (v ∷ vs) =
    ap (λ (w : Val (Unit {0})). w ∷ map (rename_value nothing_renamed new) vs) (value_kept new v)
    ∙ ap (λ (ws : List (Val (Unit {0}))). v ∷ ws) (arguments_kept new vs)

directives_kept : (new : List ℕ) (ds : List (DirectiveOf (Unit {0}))) → map (rename_directive nothing_renamed new) ds ≡ ds
directives_kept new [] = refl
directives_kept new (d ∷ ds) =
    ap (λ (vs : List (Val (Unit {0}))). let e : DirectiveOf (Unit {0}) = record { name = d.name; arguments = vs; place = d.place } in e ∷ map (rename_directive nothing_renamed new) ds) (arguments_kept new d.arguments)
    ∙ ap (λ (es : List (DirectiveOf (Unit {0}))). d ∷ es) (directives_kept new ds)

-- no variable is changed
abbrev pub KeepsVariables : Renaming → Type 0
KeepsVariables r = (text : List ℕ) → r.variables text ≡ false

pub nothing_in : {A B : Type 0} (f : A → List B) → ((x : A) → f x ≡ []) → (xs : List A) → flat_map f xs ≡ []
nothing_in f h [] = refl
nothing_in {A} {B} f h (x ∷ xs) = ap (λ (l : List B). l ++ flat_map f xs) (h x) ∙ nothing_in f h xs

pub no_change : (r : Renaming) → KeepsVariables r → (n : NameOf Span) → changed_name r.variables n ≡ []
no_change r kept n = ap (λ (b : Bool). if b then n ∷ [] else []) (kept n.text)

nothing_in_part : (r : Renaming) → KeepsVariables r → (p : Part Span) → changed_in_part r p ≡ []
nothing_in_part r kept p = by_says p.says
  where
    by_says : (s : Says Span) → changed_in_says r s ≡ []
    by_says (variable name place) = no_change r kept name
    by_says (int text place) = refl
    by_says (float text place) = refl
    by_says (string text place) = refl
    by_says (boolean value place) = refl
    by_says (null place) = refl
    by_says (enum name) = refl
    by_says (list place) = refl
    by_says (object place) = refl

pub nothing_in_arguments : (r : Renaming) → KeepsVariables r → (vs : List (Val Span)) → changed_in_arguments r vs ≡ []
nothing_in_arguments r kept vs = nothing_in (changed_in_value r) (λ v. nothing_in (changed_in_part r) (nothing_in_part r kept) (labels_in v)) vs

pub nothing_in_directives : (r : Renaming) → KeepsVariables r → (ds : List (DirectiveOf Span)) → changed_in_directives r ds ≡ []
nothing_in_directives r kept ds = nothing_in (λ (d : DirectiveOf Span). changed_in_arguments r d.arguments) (λ d. nothing_in_arguments r kept d.arguments) ds

pub constant_directives_again : {new : List ℕ} {constant : Bool} {ds : List (DirectiveOf Span)} {tokens rest : Tokens} → IsDirectives constant ds tokens rest → Again new [] (Like (IsDirectives constant) (map plain_directive) ds) tokens rest
constant_directives_again {new} {ds = ds} h =
    with_names (nothing_in_directives nothing_renamed (λ text. refl) ds)
    (changed (λ x y q. (q.0, q.1, q.2 ∙ directives_kept new (map plain_directive ds))) (directives_again nothing_renamed h))

-- types
mutual
  pub type_again : {new : List ℕ} {t : TypeOf Span} {tokens rest : Tokens} → IsType t tokens rest → Again new [] (Like IsType plain_type t) tokens rest
  type_again (nullable t free) =
      changed (λ x y q.
      let P : Tokens → Type 0 = λ l. IsNullableType q.1.0 x l in
      (q.1.0, nullable (subst P q.2.0 q.1.1) (let N : Tokens → Type 0 = λ l. NotNext kind.Bang l in subst N q.2.0 q.2.1), q.1.2))
      (joined (nullable_again t) (peeked free))
  type_again (without_null a t m) = changed (λ x y q. (non_null q.1.0, without_null q.0 q.1.1 q.2, let e = q.1.2 in cc)) (joined (nullable_again t) (marked_again m))

  nullable_again : {new : List ℕ} {t : TypeOf Span} {tokens rest : Tokens} → IsNullableType t tokens rest → Again new [] (Like IsNullableType plain_type t) tokens rest
  nullable_again (named_type {name = name} n) = changed (λ x y q. (named (record { text = name.text; place = q.0 }), named_type q.1, refl)) (kept_again n)
  nullable_again (list_type a b m t l) =
      changed (λ x y q. (list_of q.2.1.0, list_type q.0 q.2.0 q.1 q.2.1.1 q.2.2, let e = q.2.1.2 in cc)) (joined (marked_again m) (joined (type_again t) (marked_again l)))

-- a default value
pub default_again : {new : List ℕ} {o : Option (Val Span)} {tokens rest : Tokens} → IsDefaultValue o tokens rest → Again new [] (Like IsDefaultValue (option_map plain_value) o) tokens rest
default_again (no_default free) = skipped {X = IsDefaultValue} {f = option_map plain_value} None (λ u h. no_default h) free
default_again {new} (a_default {says = says} {below = below} a m v) =
    with_names (nothing_in_value says below)
    (changed (λ x y q. (Some (unnamed q.2.0 q.2.1), a_default q.0 q.1 q.2.2, let s = q.2.3 ∙ says_kept new (plain_says says) in let b = q.2.4 ∙ values_kept new (plain_values below) in cc)) (joined (marked_again m) (value_again nothing_renamed v)))
  where
    nothing_in_value : (s : Says Span) (b : Vals Span) → changed_in_says nothing_renamed s ++ changed_in_values nothing_renamed b ≡ []
    nothing_in_value s b = ap (λ (l : List (NameOf Span)). l ++ changed_in_values nothing_renamed b) (nothing_in_part nothing_renamed (λ text. refl) (record { key = None; says = s })) ∙ nothing_in (changed_in_part nothing_renamed) (nothing_in_part nothing_renamed (λ text. refl)) (labels b)

-- the definition of a variable
variable_again : {new : List ℕ} (r : Renaming) {v : VariableOf Span} {tokens rest : Tokens} → IsVariableDefinition v tokens rest → Again new (changed_name r.variables v.name) (Renamed IsVariableDefinition plain_variable (rename_definition r new) v) tokens rest
variable_again {new} r (a_variable_definition {name = name} {t = t} {default = default} {directives = ds} a b c d e m n k type value others) =
    with_names (append-nil (changed_name r.variables name))
    (changed (λ x y q.
    let q1 = q.2 in
    let q2 = q1.2 in
    let q3 = q2.2 in
    let q4 = q3.2 in (
      record { name = record { text = renamed_text r.variables new name.text; place = q1.1.0 }; place = covered x q1.0; type_ref = q3.1.0; default = q4.1.0; directives = q4.2.0 },
      a_variable_definition q.0 q1.0 q2.0 q3.0 q4.0 q.1 q1.1.1 q2.1 q3.1.1 q4.1.1 q4.2.1,
      let e1 = q3.1.2 in let e2 = q4.1.2 in let e3 = q4.2.2 in cc,
    ))
    (joined (marked_again m) (joined (renamed_again r.variables n) (joined (marked_again k) (joined (type_again type) (joined (default_again value) (constant_directives_again others)))))))

pub variables_again : {new : List ℕ} (r : Renaming) {vs : List (VariableOf Span)} {tokens rest : Tokens} → IsVariableDefinitions vs tokens rest → Again new (flat_map (λ v. changed_name r.variables v.name) vs) (Renamed IsVariableDefinitions (map plain_variable) (map (rename_definition r new)) vs) tokens rest
variables_again {new} r h = enclosed_renamed {f = plain_variable} (rename_definition r new) (λ x t rest one. variable_again r one) h

-- the names of a field
abbrev pub NamesLike : Option (NameOf Span) → NameOf Span → Tokens → Tokens → Type 0
NamesLike a n x y = (a' : Option (NameOf Span)) × (n' : NameOf Span) × IsFieldName a' n' x y × (option_map plain_name a' ≡ option_map plain_name a) × (plain_name n' ≡ plain_name n)

names_again : {new : List ℕ} {a : Option (NameOf Span)} {n : NameOf Span} {tokens rest : Tokens} → IsFieldName a n tokens rest → Again new [] (NamesLike a n) tokens rest
names_again (no_alias {name = name} n free) =
    changed (λ x y q.
    let m : NameOf Span = record { text = name.text; place = q.1.0 } in
    let P : Tokens → Type 0 = λ l. IsFieldName None m x l in
    (None, m, subst P q.2.0 (no_alias q.1.1 q.2.1), refl, refl))
    (joined (kept_again n) (peeked free))
names_again (alias {first = first} {name = name} a b n m k) =
    changed (λ x y q. (
      Some (record { text = first.text; place = q.1.0 }),
      record { text = name.text; place = q.2.2.0 },
      alias q.0 q.2.0 q.1.1 q.2.1 q.2.2.1,
      refl,
      refl,
    ))
    (joined (kept_again n) (joined (marked_again m) (kept_again k)))

-- a fragment's name, changed or not
abbrev pub FragmentNameRenamed : Renaming → List ℕ → NameOf Span → Tokens → Tokens → Type 0
FragmentNameRenamed r new name x y = (p : Span) × IsFragmentName (record { text = renamed_text r.fragments new name.text; place = p }) x y

chosen_not_on : (b : Bool) (new text : List ℕ) → (b ≡ true → new ≡ codes "on" → ⊥) → (text ≡ codes "on" → ⊥) → (if b then new else text) ≡ codes "on" → ⊥
chosen_not_on true new text h k = h refl
chosen_not_on false new text h k = k

pub fragment_name_again : {new : List ℕ} (r : Renaming) {name : NameOf Span} {tokens rest : Tokens} → MayName r new → IsFragmentName name tokens rest → Again new (changed_name r.fragments name) (FragmentNameRenamed r new name) tokens rest
fragment_name_again {new} r {name} may h =
    changed (λ x y q. (q.0, record { is_name = q.1; not_on = chosen_not_on (r.fragments name.text) new name.text (may name.text) h.not_on })) (renamed_again r.fragments h.is_name)

-- a type condition
pub condition_again : {new : List ℕ} {on : NameOf Span} {tokens rest : Tokens} → IsTypeCondition on tokens rest → Again new [] (Like IsTypeCondition plain_name on) tokens rest
condition_again {on = on} h =
    changed (λ x y q. (record { text = on.text; place = q.2.0 }, record { keyword = q.1.0; behind = q.0; begins = q.1.1; names = q.2.1 }, refl))
    (joined (kept_again h.begins) (kept_again h.names))

optional_condition_again : {new : List ℕ} {o : Option (NameOf Span)} {tokens rest : Tokens} → IsOptionalCondition o tokens rest → Again new [] (Like IsOptionalCondition (option_map plain_name) o) tokens rest
optional_condition_again (no_condition free) = skipped {X = IsOptionalCondition} {f = option_map plain_name} None (λ u h. no_condition h) free
optional_condition_again (a_condition h) = changed (λ x y q. (Some q.0, a_condition q.1, let e = q.2 in cc)) (condition_again h)

pub optional_name_again : {new : List ℕ} {o : Option (NameOf Span)} {tokens rest : Tokens} → IsOptionalName o tokens rest → Again new [] (Like IsOptionalName (option_map plain_name) o) tokens rest
optional_name_again (no_name free) = skipped {X = IsOptionalName} {f = option_map plain_name} None (λ u h. no_name h) free
optional_name_again (a_name {name = name} n) = changed (λ x y q. (Some (record { text = name.text; place = q.0 }), a_name q.1, refl)) (kept_again n)

-- a selection with names changed
abbrev pub SelectionRenamed : Renaming → List ℕ → Head Span → Sels Span → Tokens → Tokens → Type 0
SelectionRenamed r new h ss x y = (h' : Head Span) × (ss' : Sels Span) × IsSelection h' ss' x y × (plain_head h' ≡ rename_head r new (plain_head h)) × (erase_all ss' ≡ rename_selections r new (erase_all ss))

abbrev pub OptionalRenamed : Renaming → List ℕ → Option Span → Sels Span → Tokens → Tokens → Type 0
OptionalRenamed r new o ss x y = (o' : Option Span) × (ss' : Sels Span) × IsOptionalSet o' ss' x y × (there o' ≡ there o) × (erase_all ss' ≡ rename_selections r new (erase_all ss))

abbrev pub SetRenamed : Renaming → List ℕ → Sels Span → Tokens → Tokens → Type 0
SetRenamed r new ss x y = (ss' : Sels Span) × IsSelectionSet ss' x y × (erase_all ss' ≡ rename_selections r new (erase_all ss))

abbrev pub SelectionsRenamed : Renaming → List ℕ → Sels Span → Tokens → Tokens → Type 0
SelectionsRenamed r new ss x y = (ss' : Sels Span) × IsSelections ss' x y × (erase_all ss' ≡ rename_selections r new (erase_all ss))

brace : {x y z : Tokens} (r : Renaming) (new : List ℕ) (h : Head Span) (below ss zs : Sels Span) → IsPunctuator kind.BraceOpen x y → IsSelections zs y z → erase_all zs ≡ rename_selections r new (erase_all (more h below ss)) → SetRenamed r new (more h below ss) x z
brace r new h below ss none m body e = absurd (cc)
brace {y = y} r new h below ss (more l b o) m body e = (more l b o, braces y m body, e)

more_renamed : (r : Renaming) (new : List ℕ) (g h : Head Span) (a b qs ss : Sels Span) → plain_head g ≡ rename_head r new (plain_head h) → erase_all a ≡ rename_selections r new (erase_all b) → erase_all qs ≡ rename_selections r new (erase_all ss) →
    erase_all (more g a qs) ≡ rename_selections r new (erase_all (more h b ss))
more_renamed r new g h a b qs ss e1 e2 e3 = cc

mutual
  selection_again : {new : List ℕ} (r : Renaming) {h : Head Span} {ss : Sels Span} {tokens rest : Tokens} → MayName r new → IsSelection h ss tokens rest → Again new (changed_in_head r h ++ changed_in_selections r ss) (SelectionRenamed r new h ss) tokens rest
  selection_again {new} r may (a_field {alias = al} {name = n} {arguments = vs} {directives = ds} {braces = o} {ss = ss} a b c names args dirs set) =
      with_names (sym (append_assoc (changed_in_arguments r vs) (changed_in_directives r ds) (changed_in_selections r ss)))
      (changed (λ x y q.
      let w = q.2.1 in
      let d = q.2.2.1 in
      let s = q.2.2.2 in (
        field q.1.0 q.1.1 w.0 d.0 s.0 (covered x y),
        s.1,
        a_field q.0 q.2.0 q.2.2.0 q.1.2 w.1 d.1 s.2,
        let e1 = q.1.3 in let e2 = q.1.4 in let e3 = w.2 in let e4 = d.2 in let e5 = s.3 in cc,
        s.4,
      ))
      (joined (names_again names) (joined (arguments_again r args) (joined (directives_again r dirs) (optional_again r may set)))))
  selection_again {new} r may (a_spread {name = name} {directives = ds} a b m n dirs) =
      with_names (sym (append-nil (changed_name r.fragments name ++ changed_in_directives r ds)))
      (changed (λ x y q.
      let n' = q.2.1 in
      let d = q.2.2 in (
        spread (record { text = renamed_text r.fragments new name.text; place = n'.0 }) d.0 (covered x y),
        none,
        a_spread q.0 q.2.0 q.1 n'.1 d.1,
        let e = d.2 in cc,
        refl,
      ))
      (joined (marked_again m) (joined (fragment_name_again r may n) (directives_again r dirs))))
  selection_again {new} r may (an_inline {on = on} {directives = ds} {ss = ss} a b c m cond dirs set) =
      changed (λ x y q.
      let o = q.2.1 in
      let d = q.2.2.1 in
      let s = q.2.2.2 in (
        inline o.0 d.0 (covered q.2.2.0 y) (covered x y),
        s.0,
        an_inline q.0 q.2.0 q.2.2.0 q.1 o.1 d.1 s.1,
        let e1 = o.2 in let e2 = d.2 in cc,
        s.2,
      ))
      (joined (marked_again m) (joined (optional_condition_again cond) (joined (directives_again r dirs) (set_again r may set))))

  optional_again : {new : List ℕ} (r : Renaming) {o : Option Span} {ss : Sels Span} {tokens rest : Tokens} → MayName r new → IsOptionalSet o ss tokens rest → Again new (changed_in_selections r ss) (OptionalRenamed r new o ss) tokens rest
  optional_again {new} r may (no_set f) = changed (λ x y q. let P : Tokens → Type 0 = λ l. IsOptionalSet None none x l in (None, none, subst P q.0 (no_set q.1), refl, refl)) (peeked f)
  optional_again {new} r may (a_set set) = changed (λ x y q. (Some (covered x y), q.0, a_set q.1, refl, q.2)) (set_again r may set)

  pub set_again : {new : List ℕ} (r : Renaming) {ss : Sels Span} {tokens rest : Tokens} → MayName r new → IsSelectionSet ss tokens rest → Again new (changed_in_selections r ss) (SetRenamed r new ss) tokens rest
  set_again {new} r may (braces {h = h} {below = below} {ss = ss} a m body) =
      changed (λ x y q. brace r new h below ss q.2.0 q.1 q.2.1 q.2.2) (joined (marked_again m) (selections_again r may body))

  selections_again : {new : List ℕ} (r : Renaming) {ss : Sels Span} {tokens rest : Tokens} → MayName r new → IsSelections ss tokens rest → Again new (changed_in_selections r ss) (SelectionsRenamed r new ss) tokens rest
  selections_again r may (set_closed m) = changed (λ x y q. (none, set_closed q, refl)) (marked_again m)
  selections_again {new} r may (selection {h = h} {below = b} {ss = ss} a sel body) =
      with_names (sym (selections_more r h b ss))
      (changed (λ x y q. (
        more q.1.0 q.1.1 q.2.0,
        selection q.0 q.1.2 q.2.1,
        more_renamed r new q.1.0 h q.1.1 b q.2.0 ss q.1.3 q.1.4 q.2.2,
      ))
      (joined (selection_again r may sel) (selections_again r may body)))

-- the word of an operation
pub operation_type_again : {new : List ℕ} {k : OperationKind} {tokens rest : Tokens} → IsOperationType k tokens rest → Again new [] (IsOperationType k) tokens rest
operation_type_again (a_query h) = changed (λ x y q. a_query q.1) (kept_again h)
operation_type_again (a_mutation h) = changed (λ x y q. a_mutation q.1) (kept_again h)
operation_type_again (a_subscription h) = changed (λ x y q. a_subscription q.1) (kept_again h)

-- the first token is there, and not marked
abbrev pub BeginsUnmarked : List Marked → Type 0
BeginsUnmarked [] = ⊥
BeginsUnmarked (m ∷ ms) = m.marked ≡ false

pub changed_begins : {new : List ℕ} {n : List (NameOf Span)} {Q R : Tokens → Tokens → Type 0} {tokens rest : Tokens} (f : (x y : Tokens) → Q x y → R x y) (w : Again new n Q tokens rest) → BeginsUnmarked w.front → BeginsUnmarked (changed {R = R} f w).front
unfolding changed
changed_begins f w h = h

pub joined_begins : {new : List ℕ} {m n : List (NameOf Span)} {Q R : Tokens → Tokens → Type 0} {tokens a rest : Tokens} (v : Again new m Q tokens a) (w : Again new n R a rest) → BeginsUnmarked v.front → BeginsUnmarked (joined v w).front
unfolding joined
joined_begins v w h = first v.front w.front h
  where
    first : (f g : List Marked) → BeginsUnmarked f → BeginsUnmarked (f ++ g)
    first [] g h = absurd h
    first (m ∷ f) g h = h

pub kept_begins : {k : Kind} {text : List ℕ} {p : Span} {tokens rest : Tokens} (new : List ℕ) (h : IsSpelled k text p tokens rest) → BeginsUnmarked (kept_again {new = new} h).front
unfolding kept_again
kept_begins new h = refl

pub operation_type_begins : {k : OperationKind} {tokens rest : Tokens} (new : List ℕ) (h : IsOperationType k tokens rest) → BeginsUnmarked (operation_type_again {new = new} h).front
unfolding operation_type_again changed kept_again
operation_type_begins new (a_query h) = refl
operation_type_begins new (a_mutation h) = refl
operation_type_begins new (a_subscription h) = refl

pub set_begins : {ss : Sels Span} {tokens rest : Tokens} (new : List ℕ) (r : Renaming) (may : MayName r new) (h : IsSelectionSet ss tokens rest) → BeginsUnmarked (set_again {new = new} r may h).front
unfolding set_again changed joined marked_again
set_begins new r may (braces a m body) = refl

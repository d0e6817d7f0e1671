-- Where tokens are a type system definition, the same tokens somewhere else are it too. No fragment's name stands in one;
-- but where a type ends may hang on the text of the next token, so that text is asked for here.
use Rattle.std.proofs.Common.{◌≡◌, ◌≢◌, ℕ, List, [], ◌∷◌, ◌++◌, Bool, true, false, Option, Some, None, refl, sym, ap, subst, ◌∙◌, append_assoc, map, inl, inr}
use Rattle.std.specs.Prelude.{if◌then◌else◌}
use Rattle.std.specs.Option.{option_map}
use Rattle.std.proofs.lemmas.List.{map-append}
use Rattle.gq_text.specs.declared.place.Span.{Span}
use Rattle.gq_lex.specs.declared.token.Kind.{Kind}
use Rattle.gq_lex.specs.declared.token.Kind.TheVariants as kind
use Rattle.gq_tree.specs.declared.type_system.DirectiveLocation.{DirectiveLocation}
use Rattle.gq_tree.specs.Plain.{NameOf, DirectiveOf, InputOf, FieldDefinitionOf, EnumValueOf, RootOf, BodyOf, scalar_type, object_type, interface_type, union_type, enum_type, input_type, TypeSystemOf, schema, type_definition, directive_definition, place_input, place_field, place_enum_value, place_root, place_body, place_type_system, no_place}
use Rattle.gq_parse.specs.Grammar.{Tokens, NotNext, covered, OptionalMany}
use Rattle.gq_parse.specs.TypeSystem.{NotWord, IsDescription, no_description, a_description, a_block_description, Separated, last, next, Delimited, plain, led, IsRoot, a_root, IsSchema, a_schema, IsInputValue, an_input_value, IsFieldDefinition, a_field_definition, IsFieldsDefinition, IsEnumValueDefinition, an_enum_value, IsImplements, no_interfaces, interfaces, IsMembers, no_members, members, IsTypeBody, a_scalar, an_object_type, an_interface, a_union, an_enum_type, an_input_type, IsLocation, a_location, IsRepeatable, once, repeatable, HasParts, IsTypeSystemDefinition, a_schema_definition, a_type_definition, a_directive_definition, a_schema_extension, a_type_extension}
use Rattle.gq_renamed.proofs.Retelling.{Marked, tokens_of, Retold, MarksNames}
use Rattle.gq_renamed.proofs.Regrammar.{BeginsUnmarked, SameNext, Again, cut_retold, next_kept, none_retold, marked_names, marked_append, marks_append, name_in, Then, joined, changed, peeked, marked_again, kept_again, plain_name, plain_directive, Like, AllKept, named_again, skipped, enclosed_again, constant_directives_again, type_again, default_again, operation_type_again}

-- the first tokens are of one kind and text, or neither list has one
abbrev pub SameText : Tokens → Tokens → Type 0
SameText [] [] = Unit {0}
SameText [] (u ∷ us) = ⊥
SameText (t ∷ ts) [] = ⊥
SameText (t ∷ ts) (u ∷ us) = (u.kind ≡ t.kind) × (u.text ≡ t.text)

-- as Again, where the next token has the same text too
pub record AgainText (new : List ℕ) (names : List (NameOf Span)) (Q : Tokens → Tokens → Type 0) (tokens rest : Tokens) : Type 0 where
  pub front : List Marked
  pub split : tokens ≡ tokens_of front ++ rest
  pub named : marked_names front ≡ names
  pub marks : MarksNames front
  pub again : (us after : Tokens) → Retold new front us → SameText rest after → Q (us ++ after) after

same_next : (rest after : Tokens) → SameText rest after → SameNext rest after
same_next [] [] h = tt
same_next [] (u ∷ us) h = absurd h
same_next (t ∷ ts) [] h = absurd h
same_next (t ∷ ts) (u ∷ us) h = h.0

pub lifted : {new : List ℕ} {n : List (NameOf Span)} {Q : Tokens → Tokens → Type 0} {tokens rest : Tokens} → Again new n Q tokens rest → AgainText new n Q tokens rest
lifted {rest = rest} w = record { front = w.front; split = w.split; named = w.named; marks = w.marks; again = λ us after r s. w.again us after r (same_next rest after s) }

pub changed_text : {new : List ℕ} {n : List (NameOf Span)} {Q R : Tokens → Tokens → Type 0} {tokens rest : Tokens} → ((x y : Tokens) → Q x y → R x y) → AgainText new n Q tokens rest → AgainText new n R tokens rest
changed_text f w = record { front = w.front; split = w.split; named = w.named; marks = w.marks; again = λ us after r s. f (us ++ after) after (w.again us after r s) }

-- a part that looks at the kind of the next token at most, and another
pub joined_text : {new : List ℕ} {m n : List (NameOf Span)} {Q R : Tokens → Tokens → Type 0} {tokens a rest : Tokens} → Again new m Q tokens a → AgainText new n R a rest → AgainText new (m ++ n) (Then Q R) tokens rest
joined_text {new} {m} {n} {Q} {R} {tokens} {a} {rest} v w = record {
  front = v.front ++ w.front;
  split = v.split ∙ ap (λ (l : Tokens). tokens_of v.front ++ l) w.split ∙ sym (append_assoc (tokens_of v.front) (tokens_of w.front) rest) ∙ ap (λ (l : Tokens). l ++ rest) (sym (map-append (λ (m : Marked). m.token) v.front w.front));
  named = marked_append v.front w.front ∙ ap (λ (l : List (NameOf Span)). l ++ marked_names w.front) v.named ∙ ap (λ (l : List (NameOf Span)). m ++ l) w.named;
  marks = marks_append v.front w.front v.marks w.marks;
  again = λ us after r s.
      let c = cut_retold new v.front w.front us r in
      let P : Tokens → Type 0 = λ l. SameNext l (c.second ++ after) in
      let next : SameNext a (c.second ++ after) = subst P (sym w.split) (next_kept new w.front c.second rest after c.rest (same_next rest after s)) in
      let first = v.again c.first (c.second ++ after) c.retold next in
      let second = w.again c.second after c.rest s in
      let whole : us ++ after ≡ c.first ++ (c.second ++ after) = ap (λ (l : Tokens). l ++ after) c.whole ∙ append_assoc c.first c.second after in
      let S : Tokens → Type 0 = λ l. Q l (c.second ++ after) in
      (c.second ++ after, subst S (sym whole) first, second);
}

-- the first token is not marked
abbrev pub StartsUnmarked : List Marked → Type 0
StartsUnmarked [] = Unit {0}
StartsUnmarked (m ∷ ms) = m.marked ≡ false

text_kept : (new : List ℕ) (f : List Marked) (us rest after : Tokens) → StartsUnmarked f → Retold new f us → SameText rest after → SameText (tokens_of f ++ rest) (us ++ after)
text_kept new [] [] rest after free h s = s
text_kept new [] (u ∷ us) rest after free h s = absurd h
text_kept new (m ∷ f) [] rest after free h s = absurd h
text_kept new (m ∷ f) (u ∷ us) rest after free h s = (h.0, h.1 ∙ ap (λ (b : Bool). if b then new else m.token.text) free)

-- a part that looks at the text of the next token, and another that begins unmarked
pub then_text : {new : List ℕ} {m n : List (NameOf Span)} {Q R : Tokens → Tokens → Type 0} {tokens a rest : Tokens} → AgainText new m Q tokens a → (w : AgainText new n R a rest) → StartsUnmarked w.front → AgainText new (m ++ n) (Then Q R) tokens rest
then_text {new} {m} {n} {Q} {R} {tokens} {a} {rest} v w free = record {
  front = v.front ++ w.front;
  split = v.split ∙ ap (λ (l : Tokens). tokens_of v.front ++ l) w.split ∙ sym (append_assoc (tokens_of v.front) (tokens_of w.front) rest) ∙ ap (λ (l : Tokens). l ++ rest) (sym (map-append (λ (m : Marked). m.token) v.front w.front));
  named = marked_append v.front w.front ∙ ap (λ (l : List (NameOf Span)). l ++ marked_names w.front) v.named ∙ ap (λ (l : List (NameOf Span)). m ++ l) w.named;
  marks = marks_append v.front w.front v.marks w.marks;
  again = λ us after r s.
      let c = cut_retold new v.front w.front us r in
      let P : Tokens → Type 0 = λ l. SameText l (c.second ++ after) in
      let next : SameText a (c.second ++ after) = subst P (sym w.split) (text_kept new w.front c.second rest after free c.rest s) in
      let first = v.again c.first (c.second ++ after) c.retold next in
      let second = w.again c.second after c.rest s in
      let whole : us ++ after ≡ c.first ++ (c.second ++ after) = ap (λ (l : Tokens). l ++ after) c.whole ∙ append_assoc c.first c.second after in
      let S : Tokens → Type 0 = λ l. Q l (c.second ++ after) in
      (c.second ++ after, subst S (sym whole) first, second);
}

-- where no name is marked, the first token is not
unmarked : (ms : List Marked) → marked_names ms ≡ [] → StartsUnmarked ms
unmarked [] e = tt
unmarked (m ∷ ms) e = by_mark m.marked (name_in m.token) (marked_names ms) e
  where
    by_mark : (b : Bool) (n : NameOf Span) (ns : List (NameOf Span)) → (if b then n ∷ ns else ns) ≡ [] → b ≡ false
    by_mark true n ns e = absurd (cc)
    by_mark false n ns e = refl

pub nameless : {new : List ℕ} {Q : Tokens → Tokens → Type 0} {tokens rest : Tokens} → (w : AgainText new [] Q tokens rest) → StartsUnmarked w.front
nameless w = unmarked w.front w.named

pub lifted_starts : {new : List ℕ} {n : List (NameOf Span)} {Q : Tokens → Tokens → Type 0} {tokens rest : Tokens} (w : Again new n Q tokens rest) → BeginsUnmarked w.front → StartsUnmarked (lifted w).front
unfolding lifted
lifted_starts w h = there w.front h
  where
    there : (f : List Marked) → BeginsUnmarked f → StartsUnmarked f
    there [] h = tt
    there (m ∷ f) h = h

pub changed_starts : {new : List ℕ} {n : List (NameOf Span)} {Q R : Tokens → Tokens → Type 0} {tokens rest : Tokens} (f : (x y : Tokens) → Q x y → R x y) (w : AgainText new n Q tokens rest) → StartsUnmarked w.front → StartsUnmarked (changed_text {R = R} f w).front
unfolding changed_text
changed_starts f w h = h

pub then_starts : {new : List ℕ} {n m : List (NameOf Span)} {Q R : Tokens → Tokens → Type 0} {tokens a rest : Tokens} (v : AgainText new n Q tokens a) (w : AgainText new m R a rest) (free : StartsUnmarked w.front) → StartsUnmarked v.front → StartsUnmarked (then_text v w free).front
unfolding then_text
then_starts v w free h = both v.front w.front h free
  where
    both : (f g : List Marked) → StartsUnmarked f → StartsUnmarked g → StartsUnmarked (f ++ g)
    both [] g h k = k
    both (m ∷ f) g h k = h

-- nothing, where the next token is not this word
abbrev pub PeeksWord : List ℕ → Tokens → Tokens → Type 0
PeeksWord word x y = (x ≡ y) × NotWord word x

word_kept : (word : List ℕ) (rest after : Tokens) → SameText rest after → NotWord word rest → NotWord word after
word_kept word [] [] s h = tt
word_kept word [] (u ∷ us) s h = absurd s
word_kept word (t ∷ ts) [] s h = absurd s
word_kept word (t ∷ ts) (u ∷ us) s h = λ k e. h (sym s.0 ∙ k) (sym s.1 ∙ e)

peeked_word : {new word : List ℕ} {tokens : Tokens} → NotWord word tokens → AgainText new [] (PeeksWord word) tokens tokens
peeked_word {new = new} {word} {tokens} h = record {
  front = [];
  split = refl;
  named = refl;
  marks = tt;
  again = λ us after r s.
      let e = none_retold new us after r in
      let P : Tokens → Type 0 = λ l. NotWord word l in
      (e, subst P (sym e) (word_kept word tokens after s h));
}

-- a description
description_again : {new : List ℕ} {o : Option (NameOf Span)} {tokens rest : Tokens} → IsDescription o tokens rest → Again new [] (Like IsDescription (option_map plain_name) o) tokens rest
description_again (no_description free other) =
    changed (λ x y q.
    let P : Tokens → Type 0 = λ l. NotNext kind.String l in
    let S : Tokens → Type 0 = λ l. IsDescription None x l in
    (None, subst S (q.1.0 ∙ q.2.0) (no_description q.1.1 (let R : Tokens → Type 0 = λ l. NotNext kind.BlockString l in subst R (sym q.1.0) q.2.1)), refl))
    (joined (peeked free) (peeked other))
description_again (a_description {text = text} h) = changed (λ x y q. (Some (record { text = text; place = q.0 }), a_description q.1, refl)) (kept_again h)
description_again (a_block_description {text = text} h) = changed (λ x y q. (Some (record { text = text; place = q.0 }), a_block_description q.1, refl)) (kept_again h)

-- phrases with a punctuator between them
separated_again : {new : List ℕ} {A B : Type 0} {X : A → Tokens → Tokens → Type 0} {f : A → B} {k : Kind} {xs : List A} {tokens rest : Tokens} → AllKept new X f → Separated X k xs tokens rest → Again new [] (Like (Separated X k) (map f) xs) tokens rest
separated_again {X = X} {k = k} {tokens = tokens} {rest = rest} each (last {x = x} one free) =
    changed (λ u v q.
    let P : Tokens → Type 0 = λ l. Separated X k (q.1.0 ∷ []) u l in
    (q.1.0 ∷ [], subst P q.2.0 (last q.1.1 q.2.1), let e = q.1.2 in cc))
    (joined (each x tokens rest one) (peeked free))
separated_again {f = f} {tokens = tokens} each (next {x = x} {xs = xs} a b one m others) =
    changed (λ u v q. (q.1.0 ∷ q.2.2.0, next q.0 q.2.0 q.1.1 q.2.1 q.2.2.1, let e = q.1.2 in let d = q.2.2.2 in cc))
    (joined (each x tokens a one) (joined (marked_again m) (separated_again {f = f} each others)))

led_again : {new : List ℕ} {A B : Type 0} {X : A → Tokens → Tokens → Type 0} {f : A → B} {k : Kind} {xs : List A} {tokens rest : Tokens} → AllKept new X f → Delimited X k xs tokens rest → Again new [] (Like (Delimited X k) (map f) xs) tokens rest
led_again {X = X} {f} {k} each (plain free h) =
    changed (λ u v q.
    let e = q.1.0 in
    let P : Tokens → Type 0 = λ l. Separated X k q.2.0 l v in
    (q.2.0, plain q.1.1 (subst P (sym e) q.2.1), q.2.2))
    (joined (peeked free) (separated_again {f = f} each h))
led_again {f = f} each (led a m h) = changed (λ u v q. (q.2.0, led q.0 q.1 q.2.1, q.2.2)) (joined (marked_again m) (separated_again {f = f} each h))

-- the parts of definitions
abbrev plain_root : RootOf Span → RootOf (Unit {0})
plain_root r = place_root no_place r

abbrev plain_input : InputOf Span → InputOf (Unit {0})
plain_input i = place_input no_place i

abbrev plain_field : FieldDefinitionOf Span → FieldDefinitionOf (Unit {0})
plain_field d = place_field no_place d

abbrev plain_enum_value : EnumValueOf Span → EnumValueOf (Unit {0})
plain_enum_value v = place_enum_value no_place v

abbrev plain_body : BodyOf Span → BodyOf (Unit {0})
plain_body b = place_body no_place b

abbrev pub plain_type_system : TypeSystemOf Span → TypeSystemOf (Unit {0})
plain_type_system d = place_type_system no_place d

root_again : {new : List ℕ} {r : RootOf Span} {tokens rest : Tokens} → IsRoot r tokens rest → Again new [] (Like IsRoot plain_root r) tokens rest
root_again (a_root {type = type} {name = name} a b t m n) =
    changed (λ x y q. (record { kind = type; name = record { text = name.text; place = q.2.2.0 } }, a_root q.0 q.2.0 q.1 q.2.1 q.2.2.1, refl))
    (joined (operation_type_again t) (joined (marked_again m) (kept_again n)))

input_again : {new : List ℕ} {i : InputOf Span} {tokens rest : Tokens} → IsInputValue i tokens rest → Again new [] (Like IsInputValue plain_input i) tokens rest
input_again (an_input_value {description = desc} {name = name} {t = t} {default = default} {directives = ds} a b c d e said n m type value dirs) =
    changed (λ x y q.
    let q1 = q.2 in
    let q2 = q1.2 in
    let q3 = q2.2 in
    let q4 = q3.2 in (
      record { description = q.1.0; name = record { text = name.text; place = q1.1.0 }; type_ref = q3.1.0; default = q4.1.0; directives = q4.2.0 },
      an_input_value q.0 q1.0 q2.0 q3.0 q4.0 q.1.1 q1.1.1 q2.1 q3.1.1 q4.1.1 q4.2.1,
      let e0 = q.1.2 in let e1 = q3.1.2 in let e2 = q4.1.2 in let e3 = q4.2.2 in cc,
    ))
    (joined (description_again said) (joined (kept_again n) (joined (marked_again m) (joined (type_again type) (joined (default_again value) (constant_directives_again dirs))))))

inputs_again : {new : List ℕ} {k j : Kind} {vs : List (InputOf Span)} {tokens rest : Tokens} → OptionalMany IsInputValue k j vs tokens rest → Again new [] (Like (OptionalMany IsInputValue k j) (map plain_input) vs) tokens rest
inputs_again h = enclosed_again (λ x t r one. input_again one) h

field_again : {new : List ℕ} {i : FieldDefinitionOf Span} {tokens rest : Tokens} → IsFieldDefinition i tokens rest → Again new [] (Like IsFieldDefinition plain_field i) tokens rest
field_again (a_field_definition {description = desc} {name = name} {arguments = args} {t = t} {directives = ds} a b c d e said n inputs m type dirs) =
    changed (λ x y q.
    let q1 = q.2 in
    let q2 = q1.2 in
    let q3 = q2.2 in
    let q4 = q3.2 in (
      record { description = q.1.0; name = record { text = name.text; place = q1.1.0 }; arguments = q2.1.0; type_ref = q4.1.0; directives = q4.2.0 },
      a_field_definition q.0 q1.0 q2.0 q3.0 q4.0 q.1.1 q1.1.1 q2.1.1 q3.1 q4.1.1 q4.2.1,
      let e0 = q.1.2 in let e1 = q2.1.2 in let e2 = q4.1.2 in let e3 = q4.2.2 in cc,
    ))
    (joined (description_again said) (joined (kept_again n) (joined (inputs_again inputs) (joined (marked_again m) (joined (type_again type) (constant_directives_again dirs))))))

fields_again : {new : List ℕ} {vs : List (FieldDefinitionOf Span)} {tokens rest : Tokens} → IsFieldsDefinition vs tokens rest → Again new [] (Like IsFieldsDefinition (map plain_field) vs) tokens rest
fields_again h = enclosed_again (λ x t r one. field_again one) h

enum_value_again : {new : List ℕ} {v : EnumValueOf Span} {tokens rest : Tokens} → IsEnumValueDefinition v tokens rest → Again new [] (Like IsEnumValueDefinition plain_enum_value v) tokens rest
enum_value_again (an_enum_value {description = desc} {name = name} {directives = ds} a b said n other dirs) =
    changed (λ x y q. (
      record { description = q.1.0; name = record { text = name.text; place = q.2.1.0 }; directives = q.2.2.0 },
      an_enum_value q.0 q.2.0 q.1.1 q.2.1.1 other q.2.2.1,
      let e0 = q.1.2 in let e1 = q.2.2.2 in cc,
    ))
    (joined (description_again said) (joined (kept_again n) (constant_directives_again dirs)))

abbrev pub NamesAre : (List (NameOf Span) → Tokens → Tokens → Type 0) → List (NameOf Span) → Tokens → Tokens → Type 0
NamesAre X names = Like X (map plain_name) names

implements_again : {new : List ℕ} {is : List (NameOf Span)} {tokens rest : Tokens} → IsImplements is tokens rest → AgainText new [] (NamesAre IsImplements is) tokens rest
implements_again (no_interfaces free) = changed_text (λ x y q. let P : Tokens → Type 0 = λ l. IsImplements [] x l in ([], subst P q.0 (no_interfaces q.1), refl)) (peeked_word free)
implements_again (interfaces a word names) =
    lifted (changed (λ x y q. (q.2.0, interfaces q.0 q.1.1 q.2.1, q.2.2)) (joined (kept_again word) (led_again {f = plain_name} (λ x t r one. named_again one) names)))

members_again : {new : List ℕ} {ns : List (NameOf Span)} {tokens rest : Tokens} → IsMembers ns tokens rest → Again new [] (NamesAre IsMembers ns) tokens rest
members_again (no_members free) = skipped {X = IsMembers} {f = map plain_name} [] (λ u h. no_members h) free
members_again (members a m names) = changed (λ x y q. (q.2.0, members q.0 q.1 q.2.1, q.2.2)) (joined (marked_again m) (led_again {f = plain_name} (λ x t r one. named_again one) names))

-- a list is empty where its plain form is
map_some : {A B : Type 0} (f : A → B) (xs ys : List A) → map f ys ≡ map f xs → xs ≢ [] → ys ≢ []
map_some f [] ys e h = absurd (h refl)
map_some f (x ∷ xs) [] e h = absurd (cc)
map_some f (x ∷ xs) (y ∷ ys) e h = λ k. cc

abbrev SchemaLike : List (DirectiveOf Span) → List (RootOf Span) → Tokens → Tokens → Type 0
SchemaLike ds rs x y = (ds' : List (DirectiveOf Span)) × (rs' : List (RootOf Span)) × IsSchema ds' rs' x y × (map plain_directive ds' ≡ map plain_directive ds) × (map plain_root rs' ≡ map plain_root rs)

schema_again : {new : List ℕ} {ds : List (DirectiveOf Span)} {rs : List (RootOf Span)} {tokens rest : Tokens} → IsSchema ds rs tokens rest → Again new [] (SchemaLike ds rs) tokens rest
schema_again (a_schema a b word dirs roots) =
    changed (λ x y q. (q.2.1.0, q.2.2.0, a_schema q.0 q.2.0 q.1.1 q.2.1.1 q.2.2.1, q.2.1.2, q.2.2.2))
    (joined (kept_again word) (joined (constant_directives_again dirs) (enclosed_again {f = plain_root} (λ x t r one. root_again one) roots)))

-- a type from its keyword on
abbrev BodyLike : NameOf Span → List (DirectiveOf Span) → BodyOf Span → Tokens → Tokens → Type 0
BodyLike n ds b x y = (n' : NameOf Span) × (ds' : List (DirectiveOf Span)) × (b' : BodyOf Span) × IsTypeBody n' ds' b' x y × (plain_name n' ≡ plain_name n) × (map plain_directive ds' ≡ map plain_directive ds) × (plain_body b' ≡ plain_body b)

body_again : {new : List ℕ} {n : NameOf Span} {ds : List (DirectiveOf Span)} {body : BodyOf Span} {tokens rest : Tokens} → IsTypeBody n ds body tokens rest → AgainText new [] (BodyLike n ds body) tokens rest
body_again (a_scalar {name = name} a b word n dirs) =
    lifted (changed (λ x y q.
    let q1 = q.2 in
    (record { text = name.text; place = q1.1.0 }, q1.2.0, scalar_type, a_scalar q.0 q1.0 q.1.1 q1.1.1 q1.2.1, refl, q1.2.2, refl))
    (joined (kept_again word) (joined (kept_again n) (constant_directives_again dirs))))
body_again (an_object_type {name = name} a b c d word n is dirs fields) =
    let behind = lifted (joined (constant_directives_again dirs) (fields_again fields)) in
    changed_text (λ x y q.
    let q1 = q.2 in
    let q2 = q1.2 in
    let q3 = q2.2 in (
      record { text = name.text; place = q1.1.0 },
      q3.1.0,
      object_type q2.1.0 q3.2.0,
      an_object_type q.0 q1.0 q2.0 q3.0 q.1.1 q1.1.1 q2.1.1 q3.1.1 q3.2.1,
      refl,
      q3.1.2,
      let e1 = q2.1.2 in let e2 = q3.2.2 in cc,
    ))
    (joined_text (kept_again word) (joined_text (kept_again n) (then_text (implements_again is) behind (nameless behind))))
body_again (an_interface {name = name} a b c d word n is dirs fields) =
    let behind = lifted (joined (constant_directives_again dirs) (fields_again fields)) in
    changed_text (λ x y q.
    let q1 = q.2 in
    let q2 = q1.2 in
    let q3 = q2.2 in (
      record { text = name.text; place = q1.1.0 },
      q3.1.0,
      interface_type q2.1.0 q3.2.0,
      an_interface q.0 q1.0 q2.0 q3.0 q.1.1 q1.1.1 q2.1.1 q3.1.1 q3.2.1,
      refl,
      q3.1.2,
      let e1 = q2.1.2 in let e2 = q3.2.2 in cc,
    ))
    (joined_text (kept_again word) (joined_text (kept_again n) (then_text (implements_again is) behind (nameless behind))))
body_again (a_union {name = name} a b c word n dirs names) =
    lifted (changed (λ x y q.
    let q1 = q.2 in
    let q2 = q1.2 in (
      record { text = name.text; place = q1.1.0 },
      q2.1.0,
      union_type q2.2.0,
      a_union q.0 q1.0 q2.0 q.1.1 q1.1.1 q2.1.1 q2.2.1,
      refl,
      q2.1.2,
      let e = q2.2.2 in cc,
    ))
    (joined (kept_again word) (joined (kept_again n) (joined (constant_directives_again dirs) (members_again names)))))
body_again (an_enum_type {name = name} a b c word n dirs values) =
    lifted (changed (λ x y q.
    let q1 = q.2 in
    let q2 = q1.2 in (
      record { text = name.text; place = q1.1.0 },
      q2.1.0,
      enum_type q2.2.0,
      an_enum_type q.0 q1.0 q2.0 q.1.1 q1.1.1 q2.1.1 q2.2.1,
      refl,
      q2.1.2,
      let e = q2.2.2 in cc,
    ))
    (joined (kept_again word) (joined (kept_again n) (joined (constant_directives_again dirs) (enclosed_again {f = plain_enum_value} (λ x t r one. enum_value_again one) values)))))
body_again (an_input_type {name = name} a b c word n dirs fields) =
    lifted (changed (λ x y q.
    let q1 = q.2 in
    let q2 = q1.2 in (
      record { text = name.text; place = q1.1.0 },
      q2.1.0,
      input_type q2.2.0,
      an_input_type q.0 q1.0 q2.0 q.1.1 q1.1.1 q2.1.1 q2.2.1,
      refl,
      q2.1.2,
      let e = q2.2.2 in cc,
    ))
    (joined (kept_again word) (joined (kept_again n) (joined (constant_directives_again dirs) (inputs_again fields)))))

-- the locations of a directive
location_again : {new : List ℕ} {l : DirectiveLocation} {tokens rest : Tokens} → IsLocation l tokens rest → Again new [] (Like IsLocation (λ (l : DirectiveLocation). l) l) tokens rest
location_again {l = l} (a_location h) = changed (λ x y q. (l, a_location q.1, refl)) (kept_again h)

repeatable_again : {new : List ℕ} {b : Bool} {tokens rest : Tokens} → IsRepeatable b tokens rest → Again new [] (IsRepeatable b) tokens rest
repeatable_again (once h) = changed (λ x y q. once q.1) (kept_again h)
repeatable_again (repeatable a h k) = changed (λ x y q. repeatable q.0 q.1.1 q.2.1) (joined (kept_again h) (kept_again k))

map_same : {A : Type 0} (xs : List A) → map (λ (x : A). x) xs ≡ xs
map_same [] = refl
map_same (x ∷ xs) = ap (λ l. x ∷ l) (map_same xs)

-- the parts of an extension
parts_kept : (a b : BodyOf Span) → plain_body a ≡ plain_body b → HasParts b → HasParts a
parts_kept a scalar_type e h = absurd h
parts_kept (object_type is fields) (object_type js gs) e (inl h) = inl (map_some plain_name js is (cc) h)
parts_kept (object_type is fields) (object_type js gs) e (inr h) = inr (map_some plain_field gs fields (cc) h)
parts_kept scalar_type (object_type js gs) e h = absurd (cc)
parts_kept (interface_type is fields) (object_type js gs) e h = absurd (cc)
parts_kept (union_type ns) (object_type js gs) e h = absurd (cc)
parts_kept (enum_type vs) (object_type js gs) e h = absurd (cc)
parts_kept (input_type fs) (object_type js gs) e h = absurd (cc)
parts_kept (interface_type is fields) (interface_type js gs) e (inl h) = inl (map_some plain_name js is (cc) h)
parts_kept (interface_type is fields) (interface_type js gs) e (inr h) = inr (map_some plain_field gs fields (cc) h)
parts_kept scalar_type (interface_type js gs) e h = absurd (cc)
parts_kept (object_type is fields) (interface_type js gs) e h = absurd (cc)
parts_kept (union_type ns) (interface_type js gs) e h = absurd (cc)
parts_kept (enum_type vs) (interface_type js gs) e h = absurd (cc)
parts_kept (input_type fs) (interface_type js gs) e h = absurd (cc)
parts_kept (union_type ns) (union_type ms) e h = map_some plain_name ms ns (cc) h
parts_kept scalar_type (union_type ms) e h = absurd (cc)
parts_kept (object_type is fields) (union_type ms) e h = absurd (cc)
parts_kept (interface_type is fields) (union_type ms) e h = absurd (cc)
parts_kept (enum_type vs) (union_type ms) e h = absurd (cc)
parts_kept (input_type fs) (union_type ms) e h = absurd (cc)
parts_kept (enum_type vs) (enum_type ws) e h = map_some plain_enum_value ws vs (cc) h
parts_kept scalar_type (enum_type ws) e h = absurd (cc)
parts_kept (object_type is fields) (enum_type ws) e h = absurd (cc)
parts_kept (interface_type is fields) (enum_type ws) e h = absurd (cc)
parts_kept (union_type ns) (enum_type ws) e h = absurd (cc)
parts_kept (input_type fs) (enum_type ws) e h = absurd (cc)
parts_kept (input_type fs) (input_type gs) e h = map_some plain_input gs fs (cc) h
parts_kept scalar_type (input_type gs) e h = absurd (cc)
parts_kept (object_type is fields) (input_type gs) e h = absurd (cc)
parts_kept (interface_type is fields) (input_type gs) e h = absurd (cc)
parts_kept (union_type ns) (input_type gs) e h = absurd (cc)
parts_kept (enum_type vs) (input_type gs) e h = absurd (cc)

-- a definition of the type system
abbrev pub TypeSystemLike : TypeSystemOf Span → Tokens → Tokens → Type 0
TypeSystemLike d = Like IsTypeSystemDefinition plain_type_system d

pub type_system_again : {new : List ℕ} {d : TypeSystemOf Span} {tokens rest : Tokens} → IsTypeSystemDefinition d tokens rest → AgainText new [] (TypeSystemLike d) tokens rest
type_system_again (a_schema_definition {description = desc} {directives = ds} {roots = rs} a said s some) =
    lifted (changed (λ x y q.
    let w = q.2 in (
      schema false q.1.0 w.0 w.1 (covered x y),
      a_schema_definition q.0 q.1.1 w.2 (map_some plain_root rs w.1 w.4 some),
      let e1 = q.1.2 in let e2 = w.3 in let e3 = w.4 in cc,
    ))
    (joined (description_again said) (schema_again s)))
type_system_again (a_type_definition {description = desc} {name = name} {directives = ds} {body = body} a said b) =
    changed_text (λ x y q.
    let w = q.2 in (
      type_definition false q.1.0 w.0 w.1 w.2 (covered x y),
      a_type_definition q.0 q.1.1 w.3,
      let e1 = q.1.2 in let e2 = w.4 in let e3 = w.5 in let e4 = w.6 in cc,
    ))
    (joined_text (description_again said) (body_again b))
type_system_again (a_directive_definition {description = desc} {name = name} {arguments = args} {again = again} {locations = ls} a b c d e f said word m n inputs r locations) =
    lifted (changed (λ x y q.
    let q1 = q.2 in
    let q2 = q1.2 in
    let q3 = q2.2 in
    let q4 = q3.2 in
    let q5 = q4.2 in (
      directive_definition q.1.0 (record { text = name.text; place = q3.1.0 }) q4.1.0 again q5.2.0 (covered x y),
      a_directive_definition q.0 q1.0 q2.0 q3.0 q4.0 q5.0 q.1.1 q1.1.1 q2.1 q3.1.1 q4.1.1 q5.1 q5.2.1,
      let e1 = q.1.2 in let e2 = q4.1.2 in let e3 : q5.2.0 ≡ ls = sym (map_same q5.2.0) ∙ q5.2.2 ∙ map_same ls in cc,
    ))
    (joined (description_again said) (joined (kept_again word) (joined (marked_again m) (joined (kept_again n) (joined (inputs_again inputs) (joined (repeatable_again r) (led_again {f = λ (l : DirectiveLocation). l} (λ x t r one. location_again one) locations))))))))
type_system_again (a_schema_extension {directives = ds} {roots = rs} a word s (inl some)) =
    lifted (changed (λ x y q.
    let w = q.2 in
    (schema true None w.0 w.1 (covered x y), a_schema_extension q.0 q.1.1 w.2 (inl (map_some plain_directive ds w.0 w.3 some)), let e2 = w.3 in let e3 = w.4 in cc))
    (joined (kept_again word) (schema_again s)))
type_system_again (a_schema_extension {directives = ds} {roots = rs} a word s (inr some)) =
    lifted (changed (λ x y q.
    let w = q.2 in
    (schema true None w.0 w.1 (covered x y), a_schema_extension q.0 q.1.1 w.2 (inr (map_some plain_root rs w.1 w.4 some)), let e2 = w.3 in let e3 = w.4 in cc))
    (joined (kept_again word) (schema_again s)))
type_system_again (a_type_extension {name = name} {directives = ds} {body = body} a word b (inl some)) =
    changed_text (λ x y q.
    let w = q.2 in (
      type_definition true None w.0 w.1 w.2 (covered x y),
      a_type_extension q.0 q.1.1 w.3 (inl (map_some plain_directive ds w.1 w.5 some)),
      let e2 = w.4 in let e3 = w.5 in let e4 = w.6 in cc,
    ))
    (joined_text (kept_again word) (body_again b))
type_system_again (a_type_extension {name = name} {directives = ds} {body = body} a word b (inr parts)) =
    changed_text (λ x y q.
    let w = q.2 in (
      type_definition true None w.0 w.1 w.2 (covered x y),
      a_type_extension q.0 q.1.1 w.3 (inr (parts_kept w.2 body w.6 parts)),
      let e2 = w.4 in let e3 = w.5 in let e4 = w.6 in cc,
    ))
    (joined_text (kept_again word) (body_again b))

-- Tokens are one document at most.
use Rattle.std.proofs.Common.{arith, length, ◌≡◌, ◌≢◌, ℕ, Bool, List, [], ◌∷◌, refl, ap, sym, subst, ◌∙◌, Option, Some, codes}
use Rattle.gq_text.specs.declared.place.Span.{Span}
use Rattle.gq_lex.specs.declared.token.Kind.TheVariants as kind
use Rattle.gq_tree.specs.declared.tree.OperationKind.{OperationKind}
use Rattle.gq_tree.specs.declared.tree.OperationKind.TheVariants.{Query, Mutation, Subscription}
use Rattle.gq_tree.specs.declared.type_system.DirectiveLocation.{DirectiveLocation}
use Rattle.gq_tree.specs.declared.type_system.DirectiveLocation.TheVariants as location
use Rattle.gq_tree.specs.Plain.{NameOf, Def, DirectiveOf, RootOf, BodyOf, scalar_type, object_type, interface_type, union_type, enum_type, input_type, TypeSystemOf}
use Rattle.gq_parse.specs.Grammar.{Tokens, IsKeyword, braces, IsOperationType, IsOperationDefinition, bare, typed, fragment_on}
use Rattle.gq_parse.specs.TypeSystem.{IsDescription, no_description, a_description, a_block_description, IsSchema, a_schema, IsTypeBody, a_scalar, an_object_type, an_interface, a_union, an_enum_type, an_input_type, location_word, IsLocation, a_location, IsRepeatable, once, repeatable, IsTypeSystemDefinition, a_schema_definition, a_type_definition, a_directive_definition, a_schema_extension, a_type_extension}
use Rattle.gq_parse.specs.Documents.{IsDefinition, an_operation, a_fragment, a_type_system_definition, IsDocument, at_end, definition}
use Rattle.gq_parse.specs.Helping.Phrases.{Begins, Unique}
use Rattle.gq_parse.specs.Helping.Locations.{location_named}
use Rattle.gq_parse.proofs.Unique.{first_letter, one_kind, moved, punctuator_begins, spelled_begins, same_spelled, same_punctuator, same_name}
use Rattle.gq_parse.proofs.UniqueOperations.{type_keyword, fragment_or_operation, same_operation, same_fragment}
use Rattle.gq_parse.proofs.UniqueTypeSystem.{same_description, named_next, same_led, same_schema, same_inputs, paren_never, same_body}

abbrev letter_three : List ℕ → ℕ
letter_three [] = 0
letter_three (a ∷ []) = 0
letter_three (a ∷ b ∷ []) = 0
letter_three (a ∷ b ∷ c ∷ rest) = c

-- the keyword of a type
abbrev pub body_word : BodyOf Span → List ℕ
body_word scalar_type = codes "scalar"
body_word (object_type is fields) = codes "type"
body_word (interface_type is fields) = codes "interface"
body_word (union_type names) = codes "union"
body_word (enum_type values) = codes "enum"
body_word (input_type fields) = codes "input"

-- these words differ in their length, or in a letter
pub body_apart_schema : (b : BodyOf Span) → body_word b ≢ codes "schema"
body_apart_schema scalar_type h = absurd (let e : 97 ≡ 104 = ap letter_three (h) in omega (arith, e))
body_apart_schema (object_type is fields) h = absurd (let e : 4 ≡ 6 = ap length (h) in omega (arith, e))
body_apart_schema (interface_type is fields) h = absurd (let e : 9 ≡ 6 = ap length (h) in omega (arith, e))
body_apart_schema (union_type names) h = absurd (let e : 5 ≡ 6 = ap length (h) in omega (arith, e))
body_apart_schema (enum_type values) h = absurd (let e : 4 ≡ 6 = ap length (h) in omega (arith, e))
body_apart_schema (input_type fields) h = absurd (let e : 5 ≡ 6 = ap length (h) in omega (arith, e))

pub body_apart_directive : (b : BodyOf Span) → body_word b ≢ codes "directive"
body_apart_directive scalar_type h = absurd (let e : 6 ≡ 9 = ap length (h) in omega (arith, e))
body_apart_directive (object_type is fields) h = absurd (let e : 4 ≡ 9 = ap length (h) in omega (arith, e))
body_apart_directive (interface_type is fields) h = absurd (let e : 105 ≡ 100 = ap first_letter (h) in omega (arith, e))
body_apart_directive (union_type names) h = absurd (let e : 5 ≡ 9 = ap length (h) in omega (arith, e))
body_apart_directive (enum_type values) h = absurd (let e : 4 ≡ 9 = ap length (h) in omega (arith, e))
body_apart_directive (input_type fields) h = absurd (let e : 5 ≡ 9 = ap length (h) in omega (arith, e))

pub body_apart_extend : (b : BodyOf Span) → body_word b ≢ codes "extend"
body_apart_extend scalar_type h = absurd (let e : 115 ≡ 101 = ap first_letter (h) in omega (arith, e))
body_apart_extend (object_type is fields) h = absurd (let e : 4 ≡ 6 = ap length (h) in omega (arith, e))
body_apart_extend (interface_type is fields) h = absurd (let e : 9 ≡ 6 = ap length (h) in omega (arith, e))
body_apart_extend (union_type names) h = absurd (let e : 5 ≡ 6 = ap length (h) in omega (arith, e))
body_apart_extend (enum_type values) h = absurd (let e : 4 ≡ 6 = ap length (h) in omega (arith, e))
body_apart_extend (input_type fields) h = absurd (let e : 5 ≡ 6 = ap length (h) in omega (arith, e))

body_apart_fragment : (b : BodyOf Span) → body_word b ≢ codes "fragment"
body_apart_fragment scalar_type h = absurd (let e : 6 ≡ 8 = ap length (h) in omega (arith, e))
body_apart_fragment (object_type is fields) h = absurd (let e : 4 ≡ 8 = ap length (h) in omega (arith, e))
body_apart_fragment (interface_type is fields) h = absurd (let e : 9 ≡ 8 = ap length (h) in omega (arith, e))
body_apart_fragment (union_type names) h = absurd (let e : 5 ≡ 8 = ap length (h) in omega (arith, e))
body_apart_fragment (enum_type values) h = absurd (let e : 4 ≡ 8 = ap length (h) in omega (arith, e))
body_apart_fragment (input_type fields) h = absurd (let e : 5 ≡ 8 = ap length (h) in omega (arith, e))

body_apart_query : (b : BodyOf Span) → body_word b ≢ codes "query"
body_apart_query scalar_type h = absurd (let e : 6 ≡ 5 = ap length (h) in omega (arith, e))
body_apart_query (object_type is fields) h = absurd (let e : 4 ≡ 5 = ap length (h) in omega (arith, e))
body_apart_query (interface_type is fields) h = absurd (let e : 9 ≡ 5 = ap length (h) in omega (arith, e))
body_apart_query (union_type names) h = absurd (let e : 117 ≡ 113 = ap first_letter (h) in omega (arith, e))
body_apart_query (enum_type values) h = absurd (let e : 4 ≡ 5 = ap length (h) in omega (arith, e))
body_apart_query (input_type fields) h = absurd (let e : 105 ≡ 113 = ap first_letter (h) in omega (arith, e))

body_apart_mutation : (b : BodyOf Span) → body_word b ≢ codes "mutation"
body_apart_mutation scalar_type h = absurd (let e : 6 ≡ 8 = ap length (h) in omega (arith, e))
body_apart_mutation (object_type is fields) h = absurd (let e : 4 ≡ 8 = ap length (h) in omega (arith, e))
body_apart_mutation (interface_type is fields) h = absurd (let e : 9 ≡ 8 = ap length (h) in omega (arith, e))
body_apart_mutation (union_type names) h = absurd (let e : 5 ≡ 8 = ap length (h) in omega (arith, e))
body_apart_mutation (enum_type values) h = absurd (let e : 4 ≡ 8 = ap length (h) in omega (arith, e))
body_apart_mutation (input_type fields) h = absurd (let e : 5 ≡ 8 = ap length (h) in omega (arith, e))

body_apart_subscription : (b : BodyOf Span) → body_word b ≢ codes "subscription"
body_apart_subscription scalar_type h = absurd (let e : 6 ≡ 12 = ap length (h) in omega (arith, e))
body_apart_subscription (object_type is fields) h = absurd (let e : 4 ≡ 12 = ap length (h) in omega (arith, e))
body_apart_subscription (interface_type is fields) h = absurd (let e : 9 ≡ 12 = ap length (h) in omega (arith, e))
body_apart_subscription (union_type names) h = absurd (let e : 5 ≡ 12 = ap length (h) in omega (arith, e))
body_apart_subscription (enum_type values) h = absurd (let e : 4 ≡ 12 = ap length (h) in omega (arith, e))
body_apart_subscription (input_type fields) h = absurd (let e : 5 ≡ 12 = ap length (h) in omega (arith, e))

pub schema_apart_directive : codes "schema" ≢ codes "directive"
schema_apart_directive h = absurd (let e : 6 ≡ 9 = ap length (h) in omega (arith, e))

pub schema_apart_extend : codes "schema" ≢ codes "extend"
schema_apart_extend h = absurd (let e : 115 ≡ 101 = ap first_letter (h) in omega (arith, e))

pub directive_apart_extend : codes "directive" ≢ codes "extend"
directive_apart_extend h = absurd (let e : 9 ≡ 6 = ap length (h) in omega (arith, e))

schema_apart_fragment : codes "schema" ≢ codes "fragment"
schema_apart_fragment h = absurd (let e : 6 ≡ 8 = ap length (h) in omega (arith, e))

schema_apart_query : codes "schema" ≢ codes "query"
schema_apart_query h = absurd (let e : 6 ≡ 5 = ap length (h) in omega (arith, e))

schema_apart_mutation : codes "schema" ≢ codes "mutation"
schema_apart_mutation h = absurd (let e : 6 ≡ 8 = ap length (h) in omega (arith, e))

schema_apart_subscription : codes "schema" ≢ codes "subscription"
schema_apart_subscription h = absurd (let e : 6 ≡ 12 = ap length (h) in omega (arith, e))

directive_apart_fragment : codes "directive" ≢ codes "fragment"
directive_apart_fragment h = absurd (let e : 9 ≡ 8 = ap length (h) in omega (arith, e))

directive_apart_query : codes "directive" ≢ codes "query"
directive_apart_query h = absurd (let e : 9 ≡ 5 = ap length (h) in omega (arith, e))

directive_apart_mutation : codes "directive" ≢ codes "mutation"
directive_apart_mutation h = absurd (let e : 9 ≡ 8 = ap length (h) in omega (arith, e))

directive_apart_subscription : codes "directive" ≢ codes "subscription"
directive_apart_subscription h = absurd (let e : 9 ≡ 12 = ap length (h) in omega (arith, e))

extend_apart_fragment : codes "extend" ≢ codes "fragment"
extend_apart_fragment h = absurd (let e : 6 ≡ 8 = ap length (h) in omega (arith, e))

extend_apart_query : codes "extend" ≢ codes "query"
extend_apart_query h = absurd (let e : 6 ≡ 5 = ap length (h) in omega (arith, e))

extend_apart_mutation : codes "extend" ≢ codes "mutation"
extend_apart_mutation h = absurd (let e : 6 ≡ 8 = ap length (h) in omega (arith, e))

extend_apart_subscription : codes "extend" ≢ codes "subscription"
extend_apart_subscription h = absurd (let e : 6 ≡ 12 = ap length (h) in omega (arith, e))

-- the keyword that a phrase begins with
pub record Opens (word : List ℕ) (tokens : Tokens) : Type 0 where
  pub place : Span
  pub behind : Tokens
  pub keyword : IsKeyword word place tokens behind

pub body_opens : {n : NameOf Span} {ds : List (DirectiveOf Span)} {b : BodyOf Span} {tokens rest : Tokens} → IsTypeBody n ds b tokens rest → Opens (body_word b) tokens
body_opens (a_scalar {place = place} a b k n r) = record { place = place; behind = a; keyword = k }
body_opens (an_object_type {place = place} a b c d k n i r x) = record { place = place; behind = a; keyword = k }
body_opens (an_interface {place = place} a b c d k n i r x) = record { place = place; behind = a; keyword = k }
body_opens (a_union {place = place} a b c k n r x) = record { place = place; behind = a; keyword = k }
body_opens (an_enum_type {place = place} a b c k n r x) = record { place = place; behind = a; keyword = k }
body_opens (an_input_type {place = place} a b c k n r x) = record { place = place; behind = a; keyword = k }

pub schema_opens : {ds : List (DirectiveOf Span)} {rs : List (RootOf Span)} {tokens rest : Tokens} → IsSchema ds rs tokens rest → Opens (codes "schema") tokens
schema_opens (a_schema {place = place} a b k dirs roots) = record { place = place; behind = a; keyword = k }

-- one word stands first
pub one_word : {v w : List ℕ} {tokens other : Tokens} → Opens v tokens → tokens ≡ other → Opens w other → v ≡ w
one_word v same w = (same_spelled v.keyword same w.keyword).0

pub opens_name : {w : List ℕ} {tokens : Tokens} → Opens w tokens → Begins kind.Name tokens
opens_name w = spelled_begins w.keyword

-- behind the word of an extension no description stands
pub undescribed : {w : List ℕ} {d : Option (NameOf Span)} {tokens other a : Tokens} → Opens w tokens → tokens ≡ other → IsDescription d other a → Opens w a
undescribed {w} o same d = subst (Opens w) (same ∙ (named_next d (moved _ same (opens_name o))).1) o

pub location_is : (l : DirectiveLocation) → location_named (location_word l) ≡ Some l
location_is location.Query = refl
location_is location.Mutation = refl
location_is location.Subscription = refl
location_is location.Field = refl
location_is location.FragmentDefinition = refl
location_is location.FragmentSpread = refl
location_is location.InlineFragment = refl
location_is location.VariableDefinition = refl
location_is location.Schema = refl
location_is location.Scalar = refl
location_is location.Object = refl
location_is location.FieldDefinition = refl
location_is location.ArgumentDefinition = refl
location_is location.Interface = refl
location_is location.Union = refl
location_is location.Enum = refl
location_is location.EnumValue = refl
location_is location.InputObject = refl
location_is location.InputFieldDefinition = refl

pub unique_location : Unique IsLocation
unique_location x y tokens other a b (a_location h) same (a_location k) =
    let e = same_spelled h same k in
    let s : Some x ≡ Some y = sym (location_is x) ∙ ap location_named e.0 ∙ location_is y in
    let e2 = e.2 in (cc, e2)

pub on_apart_repeatable : codes "on" ≢ codes "repeatable"
on_apart_repeatable h = absurd (let e : 2 ≡ 10 = ap length h in omega (arith, e))

pub same_repeatable : {x y : Bool} {tokens other a b : Tokens} → IsRepeatable x tokens a → tokens ≡ other → IsRepeatable y other b → (x ≡ y) × (a ≡ b)
same_repeatable (once h) same (once k) = (refl, (same_spelled h same k).2)
same_repeatable (once h) same (repeatable c k m) = absurd (on_apart_repeatable (same_spelled h same k).0)
same_repeatable (repeatable c h l) same (once k) = absurd (on_apart_repeatable (sym (same_spelled h same k).0))
same_repeatable (repeatable c h l) same (repeatable d k m) = (refl, (same_spelled l (same_spelled h same k).2 m).2)

pub same_type_system : {d z : TypeSystemOf Span} {tokens other a b : Tokens} → IsTypeSystemDefinition d tokens a → tokens ≡ other → IsTypeSystemDefinition z other b → (d ≡ z) × (a ≡ b)
same_type_system (a_schema_definition c said s some) same (a_schema_definition c2 said2 s2 some2) =
    let e = same_description said same said2 in
    let f = same_schema s e.1 s2 in
    let e0 = e.0 in let f0 = f.0 in let f1 = f.1 in let f2 = f.2 in (cc, f2)
same_type_system (a_schema_definition c said s some) same (a_type_definition {body = y} c2 said2 b2) =
    absurd (body_apart_schema y (sym (one_word (schema_opens s) (same_description said same said2).1 (body_opens b2))))
same_type_system (a_schema_definition c said s some) same (a_directive_definition c2 d2 e2 f2 g2 h2 said2 k2 m2 n2 x2 r2 l2) =
    absurd (schema_apart_directive (same_spelled (schema_opens s).keyword (same_description said same said2).1 k2).0)
same_type_system (a_schema_definition c said s some) same (a_schema_extension c2 k2 s2 some2) =
    absurd (schema_apart_extend (one_word (schema_opens s) refl (undescribed (record { place = _; behind = c2; keyword = k2 }) (sym same) said)))
same_type_system (a_schema_definition c said s some) same (a_type_extension c2 k2 b2 some2) =
    absurd (schema_apart_extend (one_word (schema_opens s) refl (undescribed (record { place = _; behind = c2; keyword = k2 }) (sym same) said)))
same_type_system (a_type_definition {body = x} c said b) same (a_schema_definition c2 said2 s2 some2) =
    absurd (body_apart_schema x (one_word (body_opens b) (same_description said same said2).1 (schema_opens s2)))
same_type_system (a_type_definition c said b) same (a_type_definition c2 said2 b2) =
    let e = same_description said same said2 in
    let f = same_body b e.1 b2 in
    let e0 = e.0 in let f0 = f.0 in let f1 = f.1 in let f2 = f.2 in let f3 = f.3 in (cc, f3)
same_type_system (a_type_definition {body = x} c said b) same (a_directive_definition c2 d2 e2 f2 g2 h2 said2 k2 m2 n2 x2 r2 l2) =
    absurd (body_apart_directive x (same_spelled (body_opens b).keyword (same_description said same said2).1 k2).0)
same_type_system (a_type_definition {body = x} c said b) same (a_schema_extension c2 k2 s2 some2) =
    absurd (body_apart_extend x (one_word (body_opens b) refl (undescribed (record { place = _; behind = c2; keyword = k2 }) (sym same) said)))
same_type_system (a_type_definition {body = x} c said b) same (a_type_extension c2 k2 b2 some2) =
    absurd (body_apart_extend x (one_word (body_opens b) refl (undescribed (record { place = _; behind = c2; keyword = k2 }) (sym same) said)))
same_type_system (a_directive_definition c d e f g h said k m n x r l) same (a_schema_definition c2 said2 s2 some2) =
    absurd (schema_apart_directive (sym (same_spelled k (same_description said same said2).1 (schema_opens s2).keyword).0))
same_type_system (a_directive_definition c d e f g h said k m n x r l) same (a_type_definition {body = y} c2 said2 b2) =
    absurd (body_apart_directive y (sym (same_spelled k (same_description said same said2).1 (body_opens b2).keyword).0))
same_type_system (a_directive_definition c d e f g h said k m n x r l) same (a_directive_definition c2 d2 e2 f2 g2 h2 said2 k2 m2 n2 x2 r2 l2) =
    let p = same_description said same said2 in
    let q = same_spelled k p.1 k2 in
    let t = same_name n (same_punctuator m q.2 m2) n2 in
    let u = same_inputs paren_never x t.1 x2 in
    let v = same_repeatable r u.1 r2 in
    let w = same_led unique_location l v.1 l2 in
    let p0 = p.0 in let t0 = t.0 in let u0 = u.0 in let v0 = v.0 in let w0 = w.0 in let w1 = w.1 in (cc, w1)
same_type_system (a_directive_definition c d e f g h said k m n x r l) same (a_schema_extension c2 k2 s2 some2) =
    absurd (directive_apart_extend (same_spelled k refl (undescribed (record { place = _; behind = c2; keyword = k2 }) (sym same) said).keyword).0)
same_type_system (a_directive_definition c d e f g h said k m n x r l) same (a_type_extension c2 k2 b2 some2) =
    absurd (directive_apart_extend (same_spelled k refl (undescribed (record { place = _; behind = c2; keyword = k2 }) (sym same) said).keyword).0)
same_type_system (a_schema_extension c k s some) same (a_schema_definition c2 said2 s2 some2) =
    absurd (schema_apart_extend (one_word (schema_opens s2) refl (undescribed (record { place = _; behind = c; keyword = k }) same said2)))
same_type_system (a_schema_extension c k s some) same (a_type_definition {body = y} c2 said2 b2) =
    absurd (body_apart_extend y (one_word (body_opens b2) refl (undescribed (record { place = _; behind = c; keyword = k }) same said2)))
same_type_system (a_schema_extension c k s some) same (a_directive_definition c2 d2 e2 f2 g2 h2 said2 k2 m2 n2 x2 r2 l2) =
    absurd (directive_apart_extend (same_spelled k2 refl (undescribed (record { place = _; behind = c; keyword = k }) same said2).keyword).0)
same_type_system (a_schema_extension c k s some) same (a_schema_extension c2 k2 s2 some2) =
    let f = same_schema s (same_spelled k same k2).2 s2 in
    let f0 = f.0 in let f1 = f.1 in let f2 = f.2 in (cc, f2)
same_type_system (a_schema_extension c k s some) same (a_type_extension {body = y} c2 k2 b2 some2) =
    absurd (body_apart_schema y (sym (one_word (schema_opens s) (same_spelled k same k2).2 (body_opens b2))))
same_type_system (a_type_extension c k b some) same (a_schema_definition c2 said2 s2 some2) =
    absurd (schema_apart_extend (one_word (schema_opens s2) refl (undescribed (record { place = _; behind = c; keyword = k }) same said2)))
same_type_system (a_type_extension c k b some) same (a_type_definition {body = y} c2 said2 b2) =
    absurd (body_apart_extend y (one_word (body_opens b2) refl (undescribed (record { place = _; behind = c; keyword = k }) same said2)))
same_type_system (a_type_extension c k b some) same (a_directive_definition c2 d2 e2 f2 g2 h2 said2 k2 m2 n2 x2 r2 l2) =
    absurd (directive_apart_extend (same_spelled k2 refl (undescribed (record { place = _; behind = c; keyword = k }) same said2).keyword).0)
same_type_system (a_type_extension {body = x} c k b some) same (a_schema_extension c2 k2 s2 some2) =
    absurd (body_apart_schema x (one_word (body_opens b) (same_spelled k same k2).2 (schema_opens s2)))
same_type_system (a_type_extension c k b some) same (a_type_extension c2 k2 b2 some2) =
    let f = same_body b (same_spelled k same k2).2 b2 in
    let f0 = f.0 in let f1 = f.1 in let f2 = f.2 in let f3 = f.3 in (cc, f3)

-- what a definition begins with: a description, a keyword of the type system, or what an operation or a fragment begins with
type_system_opens : {d : TypeSystemOf Span} {tokens other a b : Tokens} {k : Span} {w : List ℕ} → IsKeyword w k tokens a → tokens ≡ other → IsTypeSystemDefinition d other b → w ≢ codes "schema" → w ≢ codes "directive" → w ≢ codes "extend" → ((x : BodyOf Span) → body_word x ≢ w) → ⊥
type_system_opens {a = a} {k = k} word same (a_schema_definition c said s some) not_schema not_directive not_extend not_body =
    not_schema (sym (one_word (schema_opens s) refl (undescribed (record { place = k; behind = a; keyword = word }) same said)))
type_system_opens {a = a} {k = k} word same (a_type_definition {body = x} c said b) not_schema not_directive not_extend not_body =
    not_body x (one_word (body_opens b) refl (undescribed (record { place = k; behind = a; keyword = word }) same said))
type_system_opens {a = a} {k = k} word same (a_directive_definition c d e f g h said key m n x r l) not_schema not_directive not_extend not_body =
    not_directive (sym (same_spelled key refl (undescribed (record { place = k; behind = a; keyword = word }) same said).keyword).0)
type_system_opens word same (a_schema_extension c key s some) not_schema not_directive not_extend not_body = not_extend (same_spelled word same key).0
type_system_opens word same (a_type_extension c key b some) not_schema not_directive not_extend not_body = not_extend (same_spelled word same key).0

pub fragment_or_type_system : {d : TypeSystemOf Span} {tokens other a b : Tokens} {k : Span} → IsKeyword (codes "fragment") k tokens a → tokens ≡ other → IsTypeSystemDefinition d other b → ⊥
fragment_or_type_system word same d = type_system_opens word same d (λ h. schema_apart_fragment (sym h)) (λ h. directive_apart_fragment (sym h)) (λ h. extend_apart_fragment (sym h)) body_apart_fragment

pub type_or_type_system : {t : OperationKind} {d : TypeSystemOf Span} {tokens other a b : Tokens} → IsOperationType t tokens a → tokens ≡ other → IsTypeSystemDefinition d other b → ⊥
type_or_type_system {t = Query} o same d = type_system_opens (type_keyword o).keyword same d (λ h. schema_apart_query (sym h)) (λ h. directive_apart_query (sym h)) (λ h. extend_apart_query (sym h)) body_apart_query
type_or_type_system {t = Mutation} o same d = type_system_opens (type_keyword o).keyword same d (λ h. schema_apart_mutation (sym h)) (λ h. directive_apart_mutation (sym h)) (λ h. extend_apart_mutation (sym h)) body_apart_mutation
type_or_type_system {t = Subscription} o same d = type_system_opens (type_keyword o).keyword same d (λ h. schema_apart_subscription (sym h)) (λ h. directive_apart_subscription (sym h)) (λ h. extend_apart_subscription (sym h)) body_apart_subscription

-- a brace begins no type system definition
described_or_brace : {o : Option (NameOf Span)} {w : List ℕ} {tokens a : Tokens} → IsDescription o tokens a → Opens w a → Begins kind.BraceOpen tokens → ⊥
described_or_brace (no_description free free_block) k brace = let e = one_kind _ _ _ (opens_name k) brace in cc
described_or_brace (a_description d) k brace = let e = one_kind _ _ _ (spelled_begins d) brace in cc
described_or_brace (a_block_description d) k brace = let e = one_kind _ _ _ (spelled_begins d) brace in cc

pub brace_or_type_system : {d : TypeSystemOf Span} {tokens a : Tokens} → IsTypeSystemDefinition d tokens a → Begins kind.BraceOpen tokens → ⊥
brace_or_type_system (a_schema_definition c said s some) brace = described_or_brace said (schema_opens s) brace
brace_or_type_system (a_type_definition c said b) brace = described_or_brace said (body_opens b) brace
brace_or_type_system (a_directive_definition c d e f g h said k m n x r l) brace = described_or_brace said (record { place = _; behind = d; keyword = k }) brace
brace_or_type_system (a_schema_extension c k s some) brace = let e = one_kind _ _ _ (spelled_begins k) brace in cc
brace_or_type_system (a_type_extension c k b some) brace = let e = one_kind _ _ _ (spelled_begins k) brace in cc

pub operation_or_type_system : {d : Def Span} {z : TypeSystemOf Span} {tokens other a b : Tokens} → IsOperationDefinition d tokens a → tokens ≡ other → IsTypeSystemDefinition z other b → ⊥
operation_or_type_system (bare (braces a m body)) same z = brace_or_type_system z (moved _ same (punctuator_begins m))
operation_or_type_system (typed a b c d o n v r s) same z = type_or_type_system o same z

pub same_definition : {d z : Def Span} {tokens other a b : Tokens} → IsDefinition d tokens a → tokens ≡ other → IsDefinition z other b → (d ≡ z) × (a ≡ b)
same_definition (an_operation o) same (an_operation o2) = same_operation o same o2
same_definition (an_operation o) same (a_fragment (fragment_on a2 b2 c2 d2 first2 k2 n2 t2 r2 s2)) = absurd (fragment_or_operation k2 (sym same) o)
same_definition (an_operation o) same (a_type_system_definition t2) = absurd (operation_or_type_system o same t2)
same_definition (a_fragment (fragment_on a b c d first k n t r s)) same (an_operation o2) = absurd (fragment_or_operation k same o2)
same_definition (a_fragment f) same (a_fragment f2) = same_fragment f same f2
same_definition (a_fragment (fragment_on a b c d first k n t r s)) same (a_type_system_definition t2) = absurd (fragment_or_type_system k same t2)
same_definition (a_type_system_definition t) same (an_operation o2) = absurd (operation_or_type_system o2 (sym same) t)
same_definition (a_type_system_definition t) same (a_fragment (fragment_on a2 b2 c2 d2 first2 k2 n2 t2 r2 s2)) = absurd (fragment_or_type_system k2 (sym same) t)
same_definition (a_type_system_definition t) same (a_type_system_definition t2) = let e = same_type_system t same t2 in let e0 = e.0 in let e1 = e.1 in (cc, e1)

-- a definition has tokens
described_or_end : {o : Option (NameOf Span)} {w : List ℕ} {tokens a : Tokens} → IsDescription o tokens a → Opens w a → tokens ≡ [] → ⊥
described_or_end (no_description free free_block) k end = let e = sym k.keyword.first ∙ end in cc
described_or_end (a_description d) k end = let e = sym d.first ∙ end in cc
described_or_end (a_block_description d) k end = let e = sym d.first ∙ end in cc

pub definition_or_end : {d : Def Span} {tokens a : Tokens} → IsDefinition d tokens a → tokens ≡ [] → ⊥
definition_or_end (an_operation (bare (braces a m body))) end = let e = sym m.first ∙ end in cc
definition_or_end (an_operation (typed a b c d o n v r s)) end = let e = sym (type_keyword o).keyword.first ∙ end in cc
definition_or_end (a_fragment (fragment_on a b c d first k n t r s)) end = let e = sym k.first ∙ end in cc
definition_or_end (a_type_system_definition (a_schema_definition c said s some)) end = described_or_end said (schema_opens s) end
definition_or_end (a_type_system_definition (a_type_definition c said b)) end = described_or_end said (body_opens b) end
definition_or_end (a_type_system_definition (a_directive_definition c d e f g h said k m n x r l)) end = described_or_end said (record { place = _; behind = d; keyword = k }) end
definition_or_end (a_type_system_definition (a_schema_extension c k s some)) end = let e = sym k.first ∙ end in cc
definition_or_end (a_type_system_definition (a_type_extension c k b some)) end = let e = sym k.first ∙ end in cc

pub same_document : {ds zs : List (Def Span)} {tokens other : Tokens} → IsDocument ds tokens → tokens ≡ other → IsDocument zs other → ds ≡ zs
same_document at_end same at_end = refl
same_document at_end same (definition a2 d2 ds2) = absurd (definition_or_end d2 (sym same))
same_document (definition a d ds) same at_end = absurd (definition_or_end d same)
same_document (definition a d ds) same (definition a2 d2 ds2) =
    let e = same_definition d same d2 in
    let f = same_document ds e.1 ds2 in
    let e0 = e.0 in cc

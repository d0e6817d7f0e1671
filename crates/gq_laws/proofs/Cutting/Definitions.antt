-- Definitions and documents over the same tokens somewhere else, before another rest that may follow.
use Rattle.std.proofs.Common.{◌≡◌, ◌≢◌, ℕ, List, [], ◌∷◌, Bool, true, false, Option, Some, None, refl, sym, ap, subst, ◌∙◌, map, inl, inr}
use Rattle.std.specs.Prelude.{codes}
use Rattle.std.specs.Option.{option_map}
use Rattle.gq_text.specs.declared.place.Span.{Span}
use Rattle.gq_lex.specs.declared.token.Kind.{Kind}
use Rattle.gq_lex.specs.declared.token.Kind.TheVariants as kind
use Rattle.gq_tree.specs.declared.tree.OperationKind.{OperationKind}
use Rattle.gq_tree.specs.declared.tree.OperationKind.TheVariants.{Query}
use Rattle.gq_tree.specs.declared.type_system.DirectiveLocation.{DirectiveLocation}
use Rattle.gq_tree.specs.Plain.{NameOf, Val, unnamed, DirectiveOf, TypeOf, named, list_of, non_null, VariableOf, Def, operation, fragment, type_system}
use Rattle.gq_tree.specs.Plain.{InputOf, FieldDefinitionOf, EnumValueOf, RootOf, BodyOf, scalar_type, object_type, interface_type, union_type, enum_type, input_type, TypeSystemOf, schema}
use Rattle.gq_tree.specs.Plain.{type_definition, directive_definition, place_input, place_field, place_enum_value, place_root, place_body, place_type_system, no_place}
use Rattle.gq_parse.specs.Grammar.{Tokens, NotNext, covered, OptionalMany, IsName, IsType, nullable, without_null, IsNullableType, named_type, list_type, IsDefaultValue, no_default, a_default}
use Rattle.gq_parse.specs.Grammar.{IsVariableDefinition, a_variable_definition, IsVariableDefinitions, IsSpelled, IsKeyword, IsDirectives, IsFragmentName, IsTypeCondition}
use Rattle.gq_parse.specs.Grammar.{IsOptionalName, no_name, a_name, IsOperationType, a_query, a_mutation, a_subscription, IsOperationDefinition, bare, typed, IsFragmentDefinition, fragment_on}
use Rattle.gq_parse.specs.TypeSystem.{NotWord, IsDescription, no_description, a_description, a_block_description, Separated, last, next, Delimited, plain, led, IsRoot, a_root, IsSchema, a_schema}
use Rattle.gq_parse.specs.TypeSystem.{IsInputValue, an_input_value, IsFieldDefinition, a_field_definition, IsFieldsDefinition, IsEnumValueDefinition, an_enum_value, IsImplements, no_interfaces}
use Rattle.gq_parse.specs.TypeSystem.{interfaces, IsMembers, no_members, members, IsTypeBody}
use Rattle.gq_parse.specs.TypeSystem.{a_scalar, an_object_type, an_interface, a_union, an_enum_type, an_input_type, IsLocation, a_location, IsRepeatable, once, repeatable, HasParts}
use Rattle.gq_parse.specs.TypeSystem.{IsTypeSystemDefinition, a_schema_definition, a_type_definition, a_directive_definition, a_schema_extension, a_type_extension}
use Rattle.gq_parse.specs.Documents.{IsDefinition, an_operation, a_fragment, a_type_system_definition}
use Rattle.gq_renamed.proofs.Regrammar.{Then, Spelled, Like, plain_name, plain_value, plain_type, plain_variable, plain_directive, plain_def}
use Rattle.gq_laws.proofs.Cutting.Phrases.{Asked, Kept, IsSome, everything, both, both_some, both_first, both_around, turned, turned_some, none_alike, peeked, sign_kept, spelled_kept, spelled_some}
use Rattle.gq_laws.proofs.Cutting.Phrases.{skipped, AllKept, enclosed_kept, value_kept, directives_kept, fragment_name_kept, condition_kept}
use Rattle.gq_laws.proofs.Cutting.Rows.{closed_set, closed_set_some}

-- what a definition asks about
pub record AsksDefinition (asked : Asked) : Type 0 where
  pub paren : asked.kinds kind.ParenOpen ≡ true
  pub at : asked.kinds kind.At ≡ true
  pub brace : asked.kinds kind.BraceOpen ≡ true
  pub bang : asked.kinds kind.Bang ≡ true
  pub equals : asked.kinds kind.Equals ≡ true
  pub pipe : asked.kinds kind.Pipe ≡ true
  pub ampersand : asked.kinds kind.Ampersand ≡ true
  pub implements : asked.words (codes "implements") ≡ true

-- types
mutual
  pub type_kept : {asked : Asked} {t : TypeOf Span} {tokens rest : Tokens} → AsksDefinition asked → IsType t tokens rest → Kept asked (Like IsType plain_type t) tokens rest
  type_kept asks (nullable t free) =
      turned (λ x y q.
      let P : Tokens → Type 0 = λ l. IsNullableType q.1.0 x l in
      (q.1.0, nullable (subst P q.2.0 q.1.1) (let N : Tokens → Type 0 = λ l. NotNext kind.Bang l in subst N q.2.0 q.2.1), q.1.2))
      (both (nullable_kept asks t) (peeked asks.bang free))
  type_kept asks (without_null a t m) = turned (λ x y q. (non_null q.1.0, without_null q.0 q.1.1 q.2, let e = q.1.2 in cc)) (both (nullable_kept asks t) (sign_kept m))

  nullable_kept : {asked : Asked} {t : TypeOf Span} {tokens rest : Tokens} → AsksDefinition asked → IsNullableType t tokens rest → Kept asked (Like IsNullableType plain_type t) tokens rest
  nullable_kept asks (named_type {name = name} n) = turned (λ x y q. (named (record { text = name.text; place = q.0 }), named_type q.1, refl)) (spelled_kept n)
  nullable_kept asks (list_type a b m t l) =
      turned (λ x y q. (list_of q.2.1.0, list_type q.0 q.2.0 q.1 q.2.1.1 q.2.2, let e = q.2.1.2 in cc)) (both (sign_kept m) (both (type_kept asks t) (sign_kept l)))

-- a Name
pub name_kept : {asked : Asked} {n : NameOf Span} {tokens rest : Tokens} → IsName n tokens rest → Kept asked (Like IsName plain_name n) tokens rest
name_kept {n = n} h = turned (λ x y q. (record { text = n.text; place = q.0 }, q.1, refl)) (spelled_kept h)

-- a default value
default_kept : {asked : Asked} {o : Option (Val Span)} {tokens rest : Tokens} → AsksDefinition asked → IsDefaultValue o tokens rest →
    Kept asked (Like IsDefaultValue (option_map plain_value) o) tokens rest
default_kept asks (no_default free) = skipped {X = IsDefaultValue} {f = option_map plain_value} None asks.equals (λ u h. no_default h) free
default_kept asks (a_default {says = says} {below = below} a m v) =
    turned (λ x y q. (Some (unnamed q.2.0 q.2.1), a_default q.0 q.1 q.2.2, let s = q.2.3 in let b = q.2.4 in cc)) (both (sign_kept m) (value_kept v))

-- the definition of a variable
variable_kept : {asked : Asked} {v : VariableOf Span} {tokens rest : Tokens} → AsksDefinition asked → IsVariableDefinition v tokens rest →
    Kept asked (Like IsVariableDefinition plain_variable v) tokens rest
variable_kept asks (a_variable_definition {name = name} {t = t} {default = default} {directives = ds} a b c d e m n k type value others) =
    turned (λ x y q.
    let q1 = q.2 in
    let q2 = q1.2 in
    let q3 = q2.2 in
    let q4 = q3.2 in (
      record { name = record { text = name.text; place = q1.1.0 }; place = covered x q1.0; type_ref = q3.1.0; default = q4.1.0; directives = q4.2.0 },
      a_variable_definition q.0 q1.0 q2.0 q3.0 q4.0 q.1 q1.1.1 q2.1 q3.1.1 q4.1.1 q4.2.1,
      let e1 = q3.1.2 in let e2 = q4.1.2 in let e3 = q4.2.2 in cc,
    ))
    (both (sign_kept m) (both (spelled_kept n) (both (sign_kept k) (both (type_kept asks type) (both (default_kept asks value) (directives_kept asks.paren asks.at others))))))

pub variables_kept : {asked : Asked} {vs : List (VariableOf Span)} {tokens rest : Tokens} → AsksDefinition asked → IsVariableDefinitions vs tokens rest →
    Kept asked (Like IsVariableDefinitions (map plain_variable) vs) tokens rest
variables_kept asks h = enclosed_kept {f = plain_variable} asks.paren (λ x t rest one. variable_kept asks one) h

pub optional_name_kept : {asked : Asked} {o : Option (NameOf Span)} {tokens rest : Tokens} → asked.kinds kind.Name ≡ true → IsOptionalName o tokens rest →
    Kept asked (Like IsOptionalName (option_map plain_name) o) tokens rest
optional_name_kept is (no_name free) = skipped {X = IsOptionalName} {f = option_map plain_name} None is (λ u h. no_name h) free
optional_name_kept is (a_name {name = name} n) = turned (λ x y q. (Some (record { text = name.text; place = q.0 }), a_name q.1, refl)) (spelled_kept n)

-- the word of an operation
pub operation_type_kept : {asked : Asked} {k : OperationKind} {tokens rest : Tokens} → IsOperationType k tokens rest → Kept asked (IsOperationType k) tokens rest
operation_type_kept (a_query h) = turned (λ x y q. a_query q.1) (spelled_kept h)
operation_type_kept (a_mutation h) = turned (λ x y q. a_mutation q.1) (spelled_kept h)
operation_type_kept (a_subscription h) = turned (λ x y q. a_subscription q.1) (spelled_kept h)

-- nothing, where the next token is not this word
abbrev PeeksWord : List ℕ → Tokens → Tokens → Type 0
PeeksWord word x y = (x ≡ y) × NotWord word x

peeked_word : {asked : Asked} {word : List ℕ} {tokens : Tokens} → asked.words word ≡ true → NotWord word tokens → Kept asked (PeeksWord word) tokens tokens
peeked_word {word = word} is h = record {
  front = [];
  split = refl;
  again = λ us after r s.
      let e = none_alike us after r in
      let P : Tokens → Type 0 = λ l. NotWord word l in
      (e, subst P (sym e) (s.words word is h));
}

-- the parts of definitions of the type system
abbrev plain_root : RootOf Span → RootOf (Unit {0})
plain_root r = place_root no_place r

abbrev plain_input : InputOf Span → InputOf (Unit {0})
plain_input i = place_input no_place i

abbrev plain_field : FieldDefinitionOf Span → FieldDefinitionOf (Unit {0})
plain_field d = place_field no_place d

abbrev plain_enum_value : EnumValueOf Span → EnumValueOf (Unit {0})
plain_enum_value v = place_enum_value no_place v

abbrev plain_body : BodyOf Span → BodyOf (Unit {0})
plain_body b = place_body no_place b

abbrev plain_type_system : TypeSystemOf Span → TypeSystemOf (Unit {0})
plain_type_system d = place_type_system no_place d

-- a description
description_kept : {o : Option (NameOf Span)} {tokens rest : Tokens} → IsDescription o tokens rest → Kept everything (Like IsDescription (option_map plain_name) o) tokens rest
description_kept (no_description free other) =
    turned (λ x y q.
    let P : Tokens → Type 0 = λ l. NotNext kind.String l in
    let S : Tokens → Type 0 = λ l. IsDescription None x l in
    (None, subst S (q.1.0 ∙ q.2.0) (no_description q.1.1 (let R : Tokens → Type 0 = λ l. NotNext kind.BlockString l in subst R (sym q.1.0) q.2.1)), refl))
    (both (peeked refl free) (peeked refl other))
description_kept (a_description {text = text} h) = turned (λ x y q. (Some (record { text = text; place = q.0 }), a_description q.1, refl)) (spelled_kept h)
description_kept (a_block_description {text = text} h) = turned (λ x y q. (Some (record { text = text; place = q.0 }), a_block_description q.1, refl)) (spelled_kept h)

-- phrases with a punctuator between them
separated_kept : {asked : Asked} {A B : Type 0} {X : A → Tokens → Tokens → Type 0} {f : A → B} {k : Kind} {xs : List A} {tokens rest : Tokens} → asked.kinds k ≡ true → AllKept asked X f →
    Separated X k xs tokens rest → Kept asked (Like (Separated X k) (map f) xs) tokens rest
separated_kept {X = X} {k = k} {tokens = tokens} {rest = rest} asks each (last {x = x} one free) =
    turned (λ u v q.
    let P : Tokens → Type 0 = λ l. Separated X k (q.1.0 ∷ []) u l in
    (q.1.0 ∷ [], subst P q.2.0 (last q.1.1 q.2.1), let e = q.1.2 in cc))
    (both (each x tokens rest one) (peeked asks free))
separated_kept {f = f} {tokens = tokens} asks each (next {x = x} {xs = xs} a b one m others) =
    turned (λ u v q. (q.1.0 ∷ q.2.2.0, next q.0 q.2.0 q.1.1 q.2.1 q.2.2.1, let e = q.1.2 in let d = q.2.2.2 in cc))
    (both (each x tokens a one) (both (sign_kept m) (separated_kept {f = f} asks each others)))

led_kept : {asked : Asked} {A B : Type 0} {X : A → Tokens → Tokens → Type 0} {f : A → B} {k : Kind} {xs : List A} {tokens rest : Tokens} → asked.kinds k ≡ true → AllKept asked X f →
    Delimited X k xs tokens rest → Kept asked (Like (Delimited X k) (map f) xs) tokens rest
led_kept {X = X} {f} {k} asks each (plain free h) =
    turned (λ u v q.
    let e = q.1.0 in
    let P : Tokens → Type 0 = λ l. Separated X k q.2.0 l v in
    (q.2.0, plain q.1.1 (subst P (sym e) q.2.1), q.2.2))
    (both (peeked asks free) (separated_kept {f = f} asks each h))
led_kept {f = f} asks each (led a m h) = turned (λ u v q. (q.2.0, led q.0 q.1 q.2.1, q.2.2)) (both (sign_kept m) (separated_kept {f = f} asks each h))

root_kept : {asked : Asked} {r : RootOf Span} {tokens rest : Tokens} → AsksDefinition asked → IsRoot r tokens rest → Kept asked (Like IsRoot plain_root r) tokens rest
root_kept asks (a_root {type = type} {name = name} a b t m n) =
    turned (λ x y q. (record { kind = type; name = record { text = name.text; place = q.2.2.0 } }, a_root q.0 q.2.0 q.1 q.2.1 q.2.2.1, refl))
    (both (operation_type_kept t) (both (sign_kept m) (spelled_kept n)))

input_kept : {asked : Asked} {i : InputOf Span} {tokens rest : Tokens} → AsksDefinition asked → IsInputValue i tokens rest → Kept asked (Like IsInputValue plain_input i) tokens rest
input_kept asks (an_input_value {description = desc} {name = name} {t = t} {default = default} {directives = ds} a b c d e said n m type value dirs) =
    turned (λ x y q.
    let q1 = q.2 in
    let q2 = q1.2 in
    let q3 = q2.2 in
    let q4 = q3.2 in (
      record { description = q.1.0; name = record { text = name.text; place = q1.1.0 }; type_ref = q3.1.0; default = q4.1.0; directives = q4.2.0 },
      an_input_value q.0 q1.0 q2.0 q3.0 q4.0 q.1.1 q1.1.1 q2.1 q3.1.1 q4.1.1 q4.2.1,
      let e0 = q.1.2 in let e1 = q3.1.2 in let e2 = q4.1.2 in let e3 = q4.2.2 in cc,
    ))
    (both_around (description_kept said) n (both (sign_kept m) (both (type_kept asks type) (both (default_kept asks value) (directives_kept asks.paren asks.at dirs)))))

inputs_kept : {asked : Asked} {k j : Kind} {vs : List (InputOf Span)} {tokens rest : Tokens} → AsksDefinition asked → asked.kinds k ≡ true → OptionalMany IsInputValue k j vs tokens rest →
    Kept asked (Like (OptionalMany IsInputValue k j) (map plain_input) vs) tokens rest
inputs_kept asks own h = enclosed_kept own (λ x t r one. input_kept asks one) h

field_kept : {asked : Asked} {i : FieldDefinitionOf Span} {tokens rest : Tokens} → AsksDefinition asked → IsFieldDefinition i tokens rest →
    Kept asked (Like IsFieldDefinition plain_field i) tokens rest
field_kept asks (a_field_definition {description = desc} {name = name} {arguments = args} {t = t} {directives = ds} a b c d e said n inputs m type dirs) =
    turned (λ x y q.
    let q1 = q.2 in
    let q2 = q1.2 in
    let q3 = q2.2 in
    let q4 = q3.2 in (
      record { description = q.1.0; name = record { text = name.text; place = q1.1.0 }; arguments = q2.1.0; type_ref = q4.1.0; directives = q4.2.0 },
      a_field_definition q.0 q1.0 q2.0 q3.0 q4.0 q.1.1 q1.1.1 q2.1.1 q3.1 q4.1.1 q4.2.1,
      let e0 = q.1.2 in let e1 = q2.1.2 in let e2 = q4.1.2 in let e3 = q4.2.2 in cc,
    ))
    (both_around (description_kept said) n (both (inputs_kept asks asks.paren inputs) (both (sign_kept m) (both (type_kept asks type) (directives_kept asks.paren asks.at dirs)))))

fields_kept : {asked : Asked} {vs : List (FieldDefinitionOf Span)} {tokens rest : Tokens} → AsksDefinition asked → IsFieldsDefinition vs tokens rest →
    Kept asked (Like IsFieldsDefinition (map plain_field) vs) tokens rest
fields_kept asks h = enclosed_kept asks.brace (λ x t r one. field_kept asks one) h

enum_value_kept : {asked : Asked} {v : EnumValueOf Span} {tokens rest : Tokens} → AsksDefinition asked → IsEnumValueDefinition v tokens rest →
    Kept asked (Like IsEnumValueDefinition plain_enum_value v) tokens rest
enum_value_kept asks (an_enum_value {description = desc} {name = name} {directives = ds} a b said n other dirs) =
    turned (λ x y q. (
      record { description = q.1.0; name = record { text = name.text; place = q.2.1.0 }; directives = q.2.2.0 },
      an_enum_value q.0 q.2.0 q.1.1 q.2.1.1 other q.2.2.1,
      let e0 = q.1.2 in let e1 = q.2.2.2 in cc,
    ))
    (both_around (description_kept said) n (directives_kept asks.paren asks.at dirs))

abbrev pub NamesAre : (List (NameOf Span) → Tokens → Tokens → Type 0) → List (NameOf Span) → Tokens → Tokens → Type 0
NamesAre X names = Like X (map plain_name) names

implements_kept : {asked : Asked} {is : List (NameOf Span)} {tokens rest : Tokens} → AsksDefinition asked → IsImplements is tokens rest → Kept asked (NamesAre IsImplements is) tokens rest
implements_kept asks (no_interfaces free) = turned (λ x y q. let P : Tokens → Type 0 = λ l. IsImplements [] x l in ([], subst P q.0 (no_interfaces q.1), refl)) (peeked_word asks.implements free)
implements_kept asks (interfaces a word names) =
    (turned (λ x y q. (q.2.0, interfaces q.0 q.1.1 q.2.1, q.2.2)) (both (spelled_kept word) (led_kept {f = plain_name} asks.ampersand (λ x t r one. name_kept one) names)))

members_kept : {asked : Asked} {ns : List (NameOf Span)} {tokens rest : Tokens} → AsksDefinition asked → IsMembers ns tokens rest → Kept asked (NamesAre IsMembers ns) tokens rest
members_kept asks (no_members free) = skipped {X = IsMembers} {f = map plain_name} [] asks.equals (λ u h. no_members h) free
members_kept asks (members a m names) = turned (λ x y q. (q.2.0, members q.0 q.1 q.2.1, q.2.2)) (both (sign_kept m) (led_kept {f = plain_name} asks.pipe (λ x t r one. name_kept one) names))

-- a list is empty where its plain form is
map_some : {A B : Type 0} (f : A → B) (xs ys : List A) → map f ys ≡ map f xs → xs ≢ [] → ys ≢ []
map_some f [] ys e h = absurd (h refl)
map_some f (x ∷ xs) [] e h = absurd (cc)
map_some f (x ∷ xs) (y ∷ ys) e h = λ k. cc

abbrev SchemaLike : List (DirectiveOf Span) → List (RootOf Span) → Tokens → Tokens → Type 0
SchemaLike ds rs x y =
    (ds' : List (DirectiveOf Span)) × (rs' : List (RootOf Span)) × IsSchema ds' rs' x y × (map plain_directive ds' ≡ map plain_directive ds) × (map plain_root rs' ≡ map plain_root rs)

schema_kept : {asked : Asked} {ds : List (DirectiveOf Span)} {rs : List (RootOf Span)} {tokens rest : Tokens} → AsksDefinition asked → IsSchema ds rs tokens rest →
    Kept asked (SchemaLike ds rs) tokens rest
schema_kept asks (a_schema a b word dirs roots) =
    turned (λ x y q. (q.2.1.0, q.2.2.0, a_schema q.0 q.2.0 q.1.1 q.2.1.1 q.2.2.1, q.2.1.2, q.2.2.2))
    (both (spelled_kept word) (both (directives_kept asks.paren asks.at dirs) (enclosed_kept {f = plain_root} asks.brace (λ x t r one. root_kept asks one) roots)))

-- a type from its keyword on
abbrev BodyLike : NameOf Span → List (DirectiveOf Span) → BodyOf Span → Tokens → Tokens → Type 0
BodyLike n ds b x y =
    (n' : NameOf Span) × (ds' : List (DirectiveOf Span)) × (b' : BodyOf Span) × IsTypeBody n' ds' b' x y × (plain_name n' ≡ plain_name n) × (map plain_directive ds' ≡ map plain_directive ds) ×
    (plain_body b' ≡ plain_body b)

body_kept : {asked : Asked} {n : NameOf Span} {ds : List (DirectiveOf Span)} {body : BodyOf Span} {tokens rest : Tokens} → AsksDefinition asked → IsTypeBody n ds body tokens rest →
    Kept asked (BodyLike n ds body) tokens rest
body_kept asks (a_scalar {name = name} a b word n dirs) =
    (turned (λ x y q.
    let q1 = q.2 in
    (record { text = name.text; place = q1.1.0 }, q1.2.0, scalar_type, a_scalar q.0 q1.0 q.1.1 q1.1.1 q1.2.1, refl, q1.2.2, refl))
    (both (spelled_kept word) (both (spelled_kept n) (directives_kept asks.paren asks.at dirs))))
body_kept asks (an_object_type {name = name} a b c d word n is dirs fields) =
    turned (λ x y q.
    let q1 = q.2 in
    let q2 = q1.2 in
    let q3 = q2.2 in (
      record { text = name.text; place = q1.1.0 },
      q3.1.0,
      object_type q2.1.0 q3.2.0,
      an_object_type q.0 q1.0 q2.0 q3.0 q.1.1 q1.1.1 q2.1.1 q3.1.1 q3.2.1,
      refl,
      q3.1.2,
      let e1 = q2.1.2 in let e2 = q3.2.2 in cc,
    ))
    (both (spelled_kept word) (both (spelled_kept n) (both (implements_kept asks is) (both (directives_kept asks.paren asks.at dirs) (fields_kept asks fields)))))
body_kept asks (an_interface {name = name} a b c d word n is dirs fields) =
    turned (λ x y q.
    let q1 = q.2 in
    let q2 = q1.2 in
    let q3 = q2.2 in (
      record { text = name.text; place = q1.1.0 },
      q3.1.0,
      interface_type q2.1.0 q3.2.0,
      an_interface q.0 q1.0 q2.0 q3.0 q.1.1 q1.1.1 q2.1.1 q3.1.1 q3.2.1,
      refl,
      q3.1.2,
      let e1 = q2.1.2 in let e2 = q3.2.2 in cc,
    ))
    (both (spelled_kept word) (both (spelled_kept n) (both (implements_kept asks is) (both (directives_kept asks.paren asks.at dirs) (fields_kept asks fields)))))
body_kept asks (a_union {name = name} a b c word n dirs names) =
    (turned (λ x y q.
    let q1 = q.2 in
    let q2 = q1.2 in (
      record { text = name.text; place = q1.1.0 },
      q2.1.0,
      union_type q2.2.0,
      a_union q.0 q1.0 q2.0 q.1.1 q1.1.1 q2.1.1 q2.2.1,
      refl,
      q2.1.2,
      let e = q2.2.2 in cc,
    ))
    (both (spelled_kept word) (both (spelled_kept n) (both (directives_kept asks.paren asks.at dirs) (members_kept asks names)))))
body_kept asks (an_enum_type {name = name} a b c word n dirs values) =
    (turned (λ x y q.
    let q1 = q.2 in
    let q2 = q1.2 in (
      record { text = name.text; place = q1.1.0 },
      q2.1.0,
      enum_type q2.2.0,
      an_enum_type q.0 q1.0 q2.0 q.1.1 q1.1.1 q2.1.1 q2.2.1,
      refl,
      q2.1.2,
      let e = q2.2.2 in cc,
    ))
    (both (spelled_kept word)
    (both (spelled_kept n) (both (directives_kept asks.paren asks.at dirs) (enclosed_kept {f = plain_enum_value} asks.brace (λ x t r one. enum_value_kept asks one) values)))))
body_kept asks (an_input_type {name = name} a b c word n dirs fields) =
    (turned (λ x y q.
    let q1 = q.2 in
    let q2 = q1.2 in (
      record { text = name.text; place = q1.1.0 },
      q2.1.0,
      input_type q2.2.0,
      an_input_type q.0 q1.0 q2.0 q.1.1 q1.1.1 q2.1.1 q2.2.1,
      refl,
      q2.1.2,
      let e = q2.2.2 in cc,
    ))
    (both (spelled_kept word) (both (spelled_kept n) (both (directives_kept asks.paren asks.at dirs) (inputs_kept asks asks.brace fields)))))

some_word : {asked : Asked} {Q R : Tokens → Tokens → Type 0} {text : List ℕ} {p : Span} {tokens a rest : Tokens} (h : IsSpelled kind.Name text p tokens a) (w : Kept asked Q a rest)
    (f : (x y : Tokens) → Then (Spelled kind.Name text) Q x y → R x y) → IsSome (turned {R = R} f (both (spelled_kept h) w)).front
some_word {asked} h w f = turned_some f (both (spelled_kept h) w) (both_first (spelled_kept h) w (spelled_some asked h))

schema_some : {asked : Asked} {ds : List (DirectiveOf Span)} {rs : List (RootOf Span)} {tokens rest : Tokens} (asks : AsksDefinition asked) (h : IsSchema ds rs tokens rest) →
    IsSome (schema_kept asks h).front
unfolding schema_kept
schema_some asks (a_schema a b word dirs roots) = some_word word _ _

body_some : {asked : Asked} {n : NameOf Span} {ds : List (DirectiveOf Span)} {body : BodyOf Span} {tokens rest : Tokens} (asks : AsksDefinition asked) (h : IsTypeBody n ds body tokens rest) →
    IsSome (body_kept asks h).front
unfolding body_kept
body_some asks (a_scalar a b word n dirs) = some_word word _ _
body_some asks (an_object_type a b c d word n is dirs fields) = some_word word _ _
body_some asks (an_interface a b c d word n is dirs fields) = some_word word _ _
body_some asks (a_union a b c word n dirs names) = some_word word _ _
body_some asks (an_enum_type a b c word n dirs values) = some_word word _ _
body_some asks (an_input_type a b c word n dirs fields) = some_word word _ _

-- the locations of a directive
location_kept : {asked : Asked} {l : DirectiveLocation} {tokens rest : Tokens} → IsLocation l tokens rest → Kept asked (Like IsLocation (λ (l : DirectiveLocation). l) l) tokens rest
location_kept {l = l} (a_location h) = turned (λ x y q. (l, a_location q.1, refl)) (spelled_kept h)

repeatable_kept : {asked : Asked} {b : Bool} {tokens rest : Tokens} → IsRepeatable b tokens rest → Kept asked (IsRepeatable b) tokens rest
repeatable_kept (once h) = turned (λ x y q. once q.1) (spelled_kept h)
repeatable_kept (repeatable a h k) = turned (λ x y q. repeatable q.0 q.1.1 q.2.1) (both (spelled_kept h) (spelled_kept k))

map_same : {A : Type 0} (xs : List A) → map (λ (x : A). x) xs ≡ xs
map_same [] = refl
map_same (x ∷ xs) = ap (λ l. x ∷ l) (map_same xs)

-- the parts of an extension
parts_kept : (a b : BodyOf Span) → plain_body a ≡ plain_body b → HasParts b → HasParts a
parts_kept a scalar_type e h = absurd h
parts_kept (object_type is fields) (object_type js gs) e (inl h) = inl (map_some plain_name js is (cc) h)
parts_kept (object_type is fields) (object_type js gs) e (inr h) = inr (map_some plain_field gs fields (cc) h)
parts_kept scalar_type (object_type js gs) e h = absurd (cc)
parts_kept (interface_type is fields) (object_type js gs) e h = absurd (cc)
parts_kept (union_type ns) (object_type js gs) e h = absurd (cc)
parts_kept (enum_type vs) (object_type js gs) e h = absurd (cc)
parts_kept (input_type fs) (object_type js gs) e h = absurd (cc)
parts_kept (interface_type is fields) (interface_type js gs) e (inl h) = inl (map_some plain_name js is (cc) h)
parts_kept (interface_type is fields) (interface_type js gs) e (inr h) = inr (map_some plain_field gs fields (cc) h)
parts_kept scalar_type (interface_type js gs) e h = absurd (cc)
parts_kept (object_type is fields) (interface_type js gs) e h = absurd (cc)
parts_kept (union_type ns) (interface_type js gs) e h = absurd (cc)
parts_kept (enum_type vs) (interface_type js gs) e h = absurd (cc)
parts_kept (input_type fs) (interface_type js gs) e h = absurd (cc)
parts_kept (union_type ns) (union_type ms) e h = map_some plain_name ms ns (cc) h
parts_kept scalar_type (union_type ms) e h = absurd (cc)
parts_kept (object_type is fields) (union_type ms) e h = absurd (cc)
parts_kept (interface_type is fields) (union_type ms) e h = absurd (cc)
parts_kept (enum_type vs) (union_type ms) e h = absurd (cc)
parts_kept (input_type fs) (union_type ms) e h = absurd (cc)
parts_kept (enum_type vs) (enum_type ws) e h = map_some plain_enum_value ws vs (cc) h
parts_kept scalar_type (enum_type ws) e h = absurd (cc)
parts_kept (object_type is fields) (enum_type ws) e h = absurd (cc)
parts_kept (interface_type is fields) (enum_type ws) e h = absurd (cc)
parts_kept (union_type ns) (enum_type ws) e h = absurd (cc)
parts_kept (input_type fs) (enum_type ws) e h = absurd (cc)
parts_kept (input_type fs) (input_type gs) e h = map_some plain_input gs fs (cc) h
parts_kept scalar_type (input_type gs) e h = absurd (cc)
parts_kept (object_type is fields) (input_type gs) e h = absurd (cc)
parts_kept (interface_type is fields) (input_type gs) e h = absurd (cc)
parts_kept (union_type ns) (input_type gs) e h = absurd (cc)
parts_kept (enum_type vs) (input_type gs) e h = absurd (cc)

-- a definition of the type system
abbrev pub TypeSystemLike : TypeSystemOf Span → Tokens → Tokens → Type 0
TypeSystemLike d = Like IsTypeSystemDefinition plain_type_system d

pub type_system_kept : {asked : Asked} {d : TypeSystemOf Span} {tokens rest : Tokens} → AsksDefinition asked → IsTypeSystemDefinition d tokens rest → Kept asked (TypeSystemLike d) tokens rest
type_system_kept asks (a_schema_definition {description = desc} {directives = ds} {roots = rs} a said s some) =
    (turned (λ x y q.
    let w = q.2 in (
      schema false q.1.0 w.0 w.1 (covered x y),
      a_schema_definition q.0 q.1.1 w.2 (map_some plain_root rs w.1 w.4 some),
      let e1 = q.1.2 in let e2 = w.3 in let e3 = w.4 in cc,
    ))
    (both_some (description_kept said) (schema_kept asks s) (schema_some asks s)))
type_system_kept asks (a_type_definition {description = desc} {name = name} {directives = ds} {body = body} a said b) =
    turned (λ x y q.
    let w = q.2 in (
      type_definition false q.1.0 w.0 w.1 w.2 (covered x y),
      a_type_definition q.0 q.1.1 w.3,
      let e1 = q.1.2 in let e2 = w.4 in let e3 = w.5 in let e4 = w.6 in cc,
    ))
    (both_some (description_kept said) (body_kept asks b) (body_some asks b))
type_system_kept asks (a_directive_definition {description = desc} {name = name} {arguments = args} {again = again} {locations = ls} a b c d e f said word m n inputs r locations) =
    (turned (λ x y q.
    let q1 = q.2 in
    let q2 = q1.2 in
    let q3 = q2.2 in
    let q4 = q3.2 in
    let q5 = q4.2 in (
      directive_definition q.1.0 (record { text = name.text; place = q3.1.0 }) q4.1.0 again q5.2.0 (covered x y),
      a_directive_definition q.0 q1.0 q2.0 q3.0 q4.0 q5.0 q.1.1 q1.1.1 q2.1 q3.1.1 q4.1.1 q5.1 q5.2.1,
      let e1 = q.1.2 in let e2 = q4.1.2 in let e3 : q5.2.0 ≡ ls = sym (map_same q5.2.0) ∙ q5.2.2 ∙ map_same ls in cc,
    ))
    (both_around (description_kept said) word
    (both (sign_kept m)
    (both (spelled_kept n)
    (both (inputs_kept asks asks.paren inputs) (both (repeatable_kept r) (led_kept {f = λ (l : DirectiveLocation). l} asks.pipe (λ x t r one. location_kept one) locations)))))))
type_system_kept asks (a_schema_extension {directives = ds} {roots = rs} a word s (inl some)) =
    (turned (λ x y q.
    let w = q.2 in
    (schema true None w.0 w.1 (covered x y), a_schema_extension q.0 q.1.1 w.2 (inl (map_some plain_directive ds w.0 w.3 some)), let e2 = w.3 in let e3 = w.4 in cc))
    (both (spelled_kept word) (schema_kept asks s)))
type_system_kept asks (a_schema_extension {directives = ds} {roots = rs} a word s (inr some)) =
    (turned (λ x y q.
    let w = q.2 in
    (schema true None w.0 w.1 (covered x y), a_schema_extension q.0 q.1.1 w.2 (inr (map_some plain_root rs w.1 w.4 some)), let e2 = w.3 in let e3 = w.4 in cc))
    (both (spelled_kept word) (schema_kept asks s)))
type_system_kept asks (a_type_extension {name = name} {directives = ds} {body = body} a word b (inl some)) =
    turned (λ x y q.
    let w = q.2 in (
      type_definition true None w.0 w.1 w.2 (covered x y),
      a_type_extension q.0 q.1.1 w.3 (inl (map_some plain_directive ds w.1 w.5 some)),
      let e2 = w.4 in let e3 = w.5 in let e4 = w.6 in cc,
    ))
    (both (spelled_kept word) (body_kept asks b))
type_system_kept asks (a_type_extension {name = name} {directives = ds} {body = body} a word b (inr parts)) =
    turned (λ x y q.
    let w = q.2 in (
      type_definition true None w.0 w.1 w.2 (covered x y),
      a_type_extension q.0 q.1.1 w.3 (inr (parts_kept w.2 body w.6 parts)),
      let e2 = w.4 in let e3 = w.5 in let e4 = w.6 in cc,
    ))
    (both (spelled_kept word) (body_kept asks b))

-- definitions
abbrev pub DefinitionLike : Def Span → Tokens → Tokens → Type 0
DefinitionLike = Like IsDefinition plain_def

-- what stands before the braces of an operation, and of a fragment
abbrev pub BeforeOperationSet : OperationKind → Option (NameOf Span) → List (VariableOf Span) → List (DirectiveOf Span) → Tokens → Tokens → Type 0
BeforeOperationSet k n vs ds =
    Then (IsOperationType k) (Then (Like IsOptionalName (option_map plain_name) n) (Then (Like IsVariableDefinitions (map plain_variable) vs) (Like (IsDirectives false) (map plain_directive) ds)))

abbrev pub BeforeFragmentSet : NameOf Span → NameOf Span → List (DirectiveOf Span) → Tokens → Tokens → Type 0
BeforeFragmentSet n on ds =
    Then (Spelled kind.Name (codes "fragment")) (Then (Like IsFragmentName plain_name n) (Then (Like IsTypeCondition plain_name on) (Like (IsDirectives false) (map plain_directive) ds)))

everything_asked : AsksDefinition everything
everything_asked = record { paren = refl; at = refl; brace = refl; bang = refl; equals = refl; pipe = refl; ampersand = refl; implements = refl }

pub before_operation_set : {k : OperationKind} {n : Option (NameOf Span)} {vs : List (VariableOf Span)} {ds : List (DirectiveOf Span)} {tokens a b c d : Tokens} → IsOperationType k tokens a →
    IsOptionalName n a b → IsVariableDefinitions vs b c → IsDirectives false ds c d →
    Kept everything (BeforeOperationSet k n vs ds) tokens d
before_operation_set word n vars dirs = both (operation_type_kept word) (both (optional_name_kept refl n) (both (variables_kept everything_asked vars) (directives_kept refl refl dirs)))

pub before_fragment_set : {n on : NameOf Span} {ds : List (DirectiveOf Span)} {first : Span} {tokens a b c d : Tokens} → IsKeyword (codes "fragment") first tokens a → IsFragmentName n a b →
    IsTypeCondition on b c → IsDirectives false ds c d →
    Kept everything (BeforeFragmentSet n on ds) tokens d
before_fragment_set word n cond dirs = both (spelled_kept word) (both (fragment_name_kept n) (both (condition_kept cond) (directives_kept refl refl dirs)))

pub operation_kept : {asked : Asked} {d : Def Span} {tokens rest : Tokens} → IsOperationDefinition d tokens rest → Kept asked (DefinitionLike d) tokens rest
operation_kept (bare set) =
    turned (λ x y q. (operation Query None [] [] q.0 (covered x y) (covered x y), an_operation (bare q.1), let e = q.2 in cc)) (closed_set set)
operation_kept {asked} (typed {type = type} {name = name} {variables = vs} {directives = ds} {ss = ss} a b c d word n vars dirs set) =
    turned (λ x y q.
    let q1 = q.1.2 in
    let q2 = q1.2 in
    let s = q.2 in (
      operation type q1.1.0 q2.1.0 q2.2.0 s.0 (covered q.0 y) (covered x y),
      an_operation (typed q.1.0 q1.0 q2.0 q.0 q.1.1 q1.1.1 q2.1.1 q2.2.1 s.1),
      let e1 = q1.1.2 in let e2 = q2.1.2 in let e3 = q2.2.2 in let e4 = s.2 in cc,
    ))
    (both_some (before_operation_set word n vars dirs) (closed_set set) (closed_set_some asked set))

pub fragment_kept : {asked : Asked} {d : Def Span} {tokens rest : Tokens} → IsFragmentDefinition d tokens rest → Kept asked (DefinitionLike d) tokens rest
fragment_kept {asked} (fragment_on {name = name} {on = on} {directives = ds} {ss = ss} a b c d first word n cond dirs set) =
    turned (λ x y q.
    let q1 = q.1.2 in
    let q2 = q1.2 in
    let s = q.2 in (
      fragment q1.1.0 q2.1.0 q2.2.0 s.0 (covered q.0 y) (covered x y),
      a_fragment (fragment_on q.1.0 q1.0 q2.0 q.0 q.1.1.0 q.1.1.1 q1.1.1 q2.1.1 q2.2.1 s.1),
      let e1 = q1.1.2 in let e2 = q2.1.2 in let e3 = q2.2.2 in let e4 = s.2 in cc,
    ))
    (both_some (before_fragment_set word n cond dirs) (closed_set set) (closed_set_some asked set))

pub definition_kept : {asked : Asked} {d : Def Span} {tokens rest : Tokens} → AsksDefinition asked → IsDefinition d tokens rest → Kept asked (DefinitionLike d) tokens rest
definition_kept asks (an_operation h) = operation_kept h
definition_kept asks (a_fragment h) = fragment_kept h
definition_kept asks (a_type_system_definition h) = turned (λ x y q. (type_system q.0, a_type_system_definition q.1, let e = q.2 in cc)) (type_system_kept asks h)

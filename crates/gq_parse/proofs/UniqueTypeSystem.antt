-- Tokens are one type system definition at most.
use Rattle.std.proofs.Common.{arith, length, ◌≡◌, ◌≢◌, ℕ, List, refl, ap, sym, subst, ◌∙◌, Option, None}
use Rattle.gq_text.specs.declared.place.Span.{Span}
use Rattle.gq_lex.specs.declared.token.Kind.{Kind}
use Rattle.gq_lex.specs.declared.token.Kind.TheVariants as kind
use Rattle.gq_tree.specs.Plain.{NameOf, DirectiveOf, InputOf, FieldDefinitionOf, EnumValueOf, RootOf, BodyOf}
use Rattle.gq_parse.specs.Grammar.{Tokens, IsName, IsKeyword, OptionalMany}
use Rattle.gq_parse.specs.TypeSystem.{NotWord, IsDescription, no_description, a_description, a_block_description, Separated, last, next, Delimited, plain, led, IsRoot, a_root, IsSchema, a_schema, IsInputValue, an_input_value, IsFieldDefinition, a_field_definition, IsFieldsDefinition, IsEnumValueDefinition, an_enum_value, IsImplements, no_interfaces, interfaces, IsMembers, no_members, members, IsTypeBody, a_scalar, an_object_type, an_interface, a_union, an_enum_type, an_input_type}
use Rattle.gq_parse.specs.Helping.Phrases.{Begins, Unique, NeverBegins}
use Rattle.gq_parse.proofs.Unique.{first_letter, one_kind, not_next, moved, punctuator_begins, spelled_begins, same_punctuator, same_spelled, same_name, same_enclosed}
use Rattle.gq_parse.proofs.UniqueValues.{same_directives, same_type, same_default}
use Rattle.gq_parse.proofs.UniqueOperations.{same_operation_type, type_keyword}

pub not_word : (word : List ℕ) {place : Span} {tokens other a : Tokens} → NotWord word tokens → tokens ≡ other → IsKeyword word place other a → ⊥
not_word word free same k = (subst (NotWord word) (same ∙ k.first) free) k.kind (sym k.spelling)

-- a description
pub same_description : {x y : Option (NameOf Span)} {tokens other a b : Tokens} → IsDescription x tokens a → tokens ≡ other → IsDescription y other b → (x ≡ y) × (a ≡ b)
same_description (no_description free free_block) same (no_description free2 free_block2) = (refl, same)
same_description (no_description free free_block) same (a_description d2) = absurd (not_next _ _ free (moved _ (sym same) (spelled_begins d2)))
same_description (no_description free free_block) same (a_block_description d2) = absurd (not_next _ _ free_block (moved _ (sym same) (spelled_begins d2)))
same_description (a_description d) same (no_description free2 free_block2) = absurd (not_next _ _ free2 (moved _ same (spelled_begins d)))
same_description (a_block_description d) same (no_description free2 free_block2) = absurd (not_next _ _ free_block2 (moved _ same (spelled_begins d)))
same_description (a_description d) same (a_description d2) = let e = same_spelled d same d2 in let e0 = e.0 in let e1 = e.1 in let e2 = e.2 in (cc, e2)
same_description (a_block_description d) same (a_block_description d2) = let e = same_spelled d same d2 in let e0 = e.0 in let e1 = e.1 in let e2 = e.2 in (cc, e2)
same_description (a_description d) same (a_block_description d2) = absurd (let e = one_kind _ _ _ (moved _ same (spelled_begins d)) (spelled_begins d2) in cc)
same_description (a_block_description d) same (a_description d2) = absurd (let e = one_kind _ _ _ (moved _ same (spelled_begins d)) (spelled_begins d2) in cc)

-- where a Name stands, no description does
pub named_next : {x : Option (NameOf Span)} {tokens a : Tokens} → IsDescription x tokens a → Begins kind.Name tokens → (x ≡ None) × (tokens ≡ a)
named_next (no_description free free_block) begins = (refl, refl)
named_next (a_description d) begins = absurd (let e = one_kind _ _ _ begins (spelled_begins d) in cc)
named_next (a_block_description d) begins = absurd (let e = one_kind _ _ _ begins (spelled_begins d) in cc)

-- what a description and a Name begin with is no punctuator
pub described : {x : Option (NameOf Span)} {n : NameOf Span} {tokens a b : Tokens} (k : Kind) → (kind.Name ≢ k) → (kind.String ≢ k) → (kind.BlockString ≢ k) → IsDescription x tokens a → IsName n a b → Begins k tokens → ⊥
described k name string block (no_description free free_block) n begins = name (one_kind _ _ _ (spelled_begins n) begins)
described k name string block (a_description d) n begins = string (one_kind _ _ _ (spelled_begins d) begins)
described k name string block (a_block_description d) n begins = block (one_kind _ _ _ (spelled_begins d) begins)

-- phrases with a punctuator between them
pub same_separated : {A : Type 0} {X : A → Tokens → Tokens → Type 0} {k : Kind} {xs ys : List A} {tokens other a b : Tokens} → Unique X → Separated X k xs tokens a → tokens ≡ other → Separated X k ys other b → (xs ≡ ys) × (a ≡ b)
same_separated unique (last {x = x} one free) same (last {x = y} two free2) = let e = unique x y _ _ _ _ one same two in let e0 = e.0 in let e1 = e.1 in (cc, e1)
same_separated unique (last {x = x} one free) same (next {x = y} a2 b2 two m2 others2) = absurd (not_next _ _ free (moved _ (sym (unique x y _ _ _ _ one same two).1) (punctuator_begins m2)))
same_separated unique (next {x = x} a b one m others) same (last {x = y} two free2) = absurd (not_next _ _ free2 (moved _ (unique x y _ _ _ _ one same two).1 (punctuator_begins m)))
same_separated unique (next {x = x} a b one m others) same (next {x = y} a2 b2 two m2 others2) =
    let e = unique x y _ _ _ _ one same two in
    let f = same_separated unique others (same_punctuator m e.1 m2) others2 in
    let e0 = e.0 in let f0 = f.0 in let f1 = f.1 in (cc, f1)

pub same_led : {A : Type 0} {X : A → Tokens → Tokens → Type 0} {k : Kind} {xs ys : List A} {tokens other a b : Tokens} → Unique X → Delimited X k xs tokens a → tokens ≡ other → Delimited X k ys other b → (xs ≡ ys) × (a ≡ b)
same_led unique (plain free h) same (plain free2 h2) = same_separated unique h same h2
same_led unique (plain free h) same (led a2 m2 h2) = absurd (not_next _ _ free (moved _ (sym same) (punctuator_begins m2)))
same_led unique (led a m h) same (plain free2 h2) = absurd (not_next _ _ free2 (moved _ same (punctuator_begins m)))
same_led unique (led a m h) same (led a2 m2 h2) = same_separated unique h (same_punctuator m same m2) h2

pub unique_name : Unique IsName
unique_name x y tokens other a b n same n2 = same_name n same n2

-- roots
pub unique_root : Unique IsRoot
unique_root x y tokens other a b (a_root c d t m n) same (a_root c2 d2 t2 m2 n2) =
    let e = same_operation_type t same t2 in
    let f = same_name n (same_punctuator m e.1 m2) n2 in
    let e0 = e.0 in let f0 = f.0 in let f1 = f.1 in (cc, f1)

pub root_never : NeverBegins kind.BraceClose IsRoot
root_never x tokens a (a_root c d t m n) begins = let e = one_kind _ _ _ (spelled_begins (type_keyword t).keyword) begins in cc

pub same_schema : {x y : List (DirectiveOf Span)} {r s : List (RootOf Span)} {tokens other a b : Tokens} → IsSchema x r tokens a → tokens ≡ other → IsSchema y s other b → (x ≡ y) × (r ≡ s) × (a ≡ b)
same_schema (a_schema c d k dirs roots) same (a_schema c2 d2 k2 dirs2 roots2) =
    let e = same_spelled k same k2 in
    let f = same_directives dirs e.2 dirs2 in
    let g = same_enclosed unique_root root_never roots f.1 roots2 in
    (f.0, g.0, g.1)

-- input values
pub unique_input : Unique IsInputValue
unique_input x y tokens other a b (an_input_value c d e f g said n m t v r) same (an_input_value c2 d2 e2 f2 g2 said2 n2 m2 t2 v2 r2) =
    let w = same_description said same said2 in
    let z = same_name n w.1 n2 in
    let u = same_type t (same_punctuator m z.1 m2) t2 in
    let q = same_default v u.1 v2 in
    let p = same_directives r q.1 r2 in
    let w0 = w.0 in let z0 = z.0 in let u0 = u.0 in let q0 = q.0 in let p0 = p.0 in let p1 = p.1 in (cc, p1)

pub paren_never : NeverBegins kind.ParenClose IsInputValue
paren_never x tokens a (an_input_value c d e f g said n m t v r) begins = described kind.ParenClose (λ h. cc) (λ h. cc) (λ h. cc) said n begins

pub brace_never : NeverBegins kind.BraceClose IsInputValue
brace_never x tokens a (an_input_value c d e f g said n m t v r) begins = described kind.BraceClose (λ h. cc) (λ h. cc) (λ h. cc) said n begins

pub same_inputs : {k j : Kind} {xs ys : List (InputOf Span)} {tokens other a b : Tokens} → NeverBegins j IsInputValue → OptionalMany IsInputValue k j xs tokens a → tokens ≡ other → OptionalMany IsInputValue k j ys other b → (xs ≡ ys) × (a ≡ b)
same_inputs never h same h2 = same_enclosed unique_input never h same h2

-- fields
pub unique_field : Unique IsFieldDefinition
unique_field x y tokens other a b (a_field_definition c d e f g said n args m t r) same (a_field_definition c2 d2 e2 f2 g2 said2 n2 args2 m2 t2 r2) =
    let w = same_description said same said2 in
    let z = same_name n w.1 n2 in
    let v = same_inputs paren_never args z.1 args2 in
    let u = same_type t (same_punctuator m v.1 m2) t2 in
    let p = same_directives r u.1 r2 in
    let w0 = w.0 in let z0 = z.0 in let v0 = v.0 in let u0 = u.0 in let p0 = p.0 in let p1 = p.1 in (cc, p1)

pub field_never : NeverBegins kind.BraceClose IsFieldDefinition
field_never x tokens a (a_field_definition c d e f g said n args m t r) begins = described kind.BraceClose (λ h. cc) (λ h. cc) (λ h. cc) said n begins

pub same_fields_definition : {xs ys : List (FieldDefinitionOf Span)} {tokens other a b : Tokens} → IsFieldsDefinition xs tokens a → tokens ≡ other → IsFieldsDefinition ys other b → (xs ≡ ys) × (a ≡ b)
same_fields_definition h same h2 = same_enclosed unique_field field_never h same h2

-- enum values
pub unique_enum_value : Unique IsEnumValueDefinition
unique_enum_value x y tokens other a b (an_enum_value c d said n free r) same (an_enum_value c2 d2 said2 n2 free2 r2) =
    let w = same_description said same said2 in
    let z = same_name n w.1 n2 in
    let p = same_directives r z.1 r2 in
    let w0 = w.0 in let z0 = z.0 in let p0 = p.0 in let p1 = p.1 in (cc, p1)

pub enum_value_never : NeverBegins kind.BraceClose IsEnumValueDefinition
enum_value_never x tokens a (an_enum_value c d said n free r) begins = described kind.BraceClose (λ h. cc) (λ h. cc) (λ h. cc) said n begins

pub same_enum_values : {xs ys : List (EnumValueOf Span)} {tokens other a b : Tokens} → OptionalMany IsEnumValueDefinition kind.BraceOpen kind.BraceClose xs tokens a → tokens ≡ other → OptionalMany IsEnumValueDefinition kind.BraceOpen kind.BraceClose ys other b → (xs ≡ ys) × (a ≡ b)
same_enum_values h same h2 = same_enclosed unique_enum_value enum_value_never h same h2

-- interfaces and members
pub same_implements : {xs ys : List (NameOf Span)} {tokens other a b : Tokens} → IsImplements xs tokens a → tokens ≡ other → IsImplements ys other b → (xs ≡ ys) × (a ≡ b)
same_implements (no_interfaces free) same (no_interfaces free2) = (refl, same)
same_implements (no_interfaces free) same (interfaces a2 k2 h2) = absurd (not_word _ free same k2)
same_implements (interfaces a k h) same (no_interfaces free2) = absurd (not_word _ free2 (sym same) k)
same_implements (interfaces a k h) same (interfaces a2 k2 h2) = same_led unique_name h (same_spelled k same k2).2 h2

pub same_members : {xs ys : List (NameOf Span)} {tokens other a b : Tokens} → IsMembers xs tokens a → tokens ≡ other → IsMembers ys other b → (xs ≡ ys) × (a ≡ b)
same_members (no_members free) same (no_members free2) = (refl, same)
same_members (no_members free) same (members a2 m2 h2) = absurd (not_next _ _ free (moved _ (sym same) (punctuator_begins m2)))
same_members (members a m h) same (no_members free2) = absurd (not_next _ _ free2 (moved _ same (punctuator_begins m)))
same_members (members a m h) same (members a2 m2 h2) = same_led unique_name h (same_punctuator m same m2) h2

pub same_body : {n m : NameOf Span} {ds es : List (DirectiveOf Span)} {x y : BodyOf Span} {tokens other a b : Tokens} → IsTypeBody n ds x tokens a → tokens ≡ other → IsTypeBody m es y other b → (n ≡ m) × (ds ≡ es) × (x ≡ y) × (a ≡ b)
same_body (a_scalar a b k n r) same (a_scalar a2 b2 k2 n2 r2) =
    let e = same_spelled k same k2 in
    let f = same_name n e.2 n2 in
    let g = same_directives r f.1 r2 in
    let e0 = f.0 in let g0 = g.0 in let g1 = g.1 in (e0, g0, refl, g1)
same_body (a_scalar a b k n r) same (an_object_type a2 b2 c2 d2 k2 n2 i2 r2 x2) = absurd (let e : 6 ≡ 4 = ap length ((same_spelled k same k2).0) in omega (arith, e))
same_body (a_scalar a b k n r) same (an_interface a2 b2 c2 d2 k2 n2 i2 r2 x2) = absurd (let e : 6 ≡ 9 = ap length ((same_spelled k same k2).0) in omega (arith, e))
same_body (a_scalar a b k n r) same (a_union a2 b2 c2 k2 n2 r2 x2) = absurd (let e : 6 ≡ 5 = ap length ((same_spelled k same k2).0) in omega (arith, e))
same_body (a_scalar a b k n r) same (an_enum_type a2 b2 c2 k2 n2 r2 x2) = absurd (let e : 6 ≡ 4 = ap length ((same_spelled k same k2).0) in omega (arith, e))
same_body (a_scalar a b k n r) same (an_input_type a2 b2 c2 k2 n2 r2 x2) = absurd (let e : 6 ≡ 5 = ap length ((same_spelled k same k2).0) in omega (arith, e))
same_body (an_object_type a b c d k n i r x) same (a_scalar a2 b2 k2 n2 r2) = absurd (let e : 4 ≡ 6 = ap length ((same_spelled k same k2).0) in omega (arith, e))
same_body (an_object_type a b c d k n i r x) same (an_object_type a2 b2 c2 d2 k2 n2 i2 r2 x2) =
    let e = same_spelled k same k2 in
    let f = same_name n e.2 n2 in
    let h = same_implements i f.1 i2 in
    let g = same_directives r h.1 r2 in
    let l = same_fields_definition x g.1 x2 in
    let f0 = f.0 in let h0 = h.0 in let g0 = g.0 in let l0 = l.0 in let l1 = l.1 in (f0, g0, cc, l1)
same_body (an_object_type a b c d k n i r x) same (an_interface a2 b2 c2 d2 k2 n2 i2 r2 x2) = absurd (let e : 4 ≡ 9 = ap length ((same_spelled k same k2).0) in omega (arith, e))
same_body (an_object_type a b c d k n i r x) same (a_union a2 b2 c2 k2 n2 r2 x2) = absurd (let e : 4 ≡ 5 = ap length ((same_spelled k same k2).0) in omega (arith, e))
same_body (an_object_type a b c d k n i r x) same (an_enum_type a2 b2 c2 k2 n2 r2 x2) = absurd (let e : 116 ≡ 101 = ap first_letter ((same_spelled k same k2).0) in omega (arith, e))
same_body (an_object_type a b c d k n i r x) same (an_input_type a2 b2 c2 k2 n2 r2 x2) = absurd (let e : 4 ≡ 5 = ap length ((same_spelled k same k2).0) in omega (arith, e))
same_body (an_interface a b c d k n i r x) same (a_scalar a2 b2 k2 n2 r2) = absurd (let e : 9 ≡ 6 = ap length ((same_spelled k same k2).0) in omega (arith, e))
same_body (an_interface a b c d k n i r x) same (an_object_type a2 b2 c2 d2 k2 n2 i2 r2 x2) = absurd (let e : 9 ≡ 4 = ap length ((same_spelled k same k2).0) in omega (arith, e))
same_body (an_interface a b c d k n i r x) same (an_interface a2 b2 c2 d2 k2 n2 i2 r2 x2) =
    let e = same_spelled k same k2 in
    let f = same_name n e.2 n2 in
    let h = same_implements i f.1 i2 in
    let g = same_directives r h.1 r2 in
    let l = same_fields_definition x g.1 x2 in
    let f0 = f.0 in let h0 = h.0 in let g0 = g.0 in let l0 = l.0 in let l1 = l.1 in (f0, g0, cc, l1)
same_body (an_interface a b c d k n i r x) same (a_union a2 b2 c2 k2 n2 r2 x2) = absurd (let e : 9 ≡ 5 = ap length ((same_spelled k same k2).0) in omega (arith, e))
same_body (an_interface a b c d k n i r x) same (an_enum_type a2 b2 c2 k2 n2 r2 x2) = absurd (let e : 9 ≡ 4 = ap length ((same_spelled k same k2).0) in omega (arith, e))
same_body (an_interface a b c d k n i r x) same (an_input_type a2 b2 c2 k2 n2 r2 x2) = absurd (let e : 9 ≡ 5 = ap length ((same_spelled k same k2).0) in omega (arith, e))
same_body (a_union a b c k n r x) same (a_scalar a2 b2 k2 n2 r2) = absurd (let e : 5 ≡ 6 = ap length ((same_spelled k same k2).0) in omega (arith, e))
same_body (a_union a b c k n r x) same (an_object_type a2 b2 c2 d2 k2 n2 i2 r2 x2) = absurd (let e : 5 ≡ 4 = ap length ((same_spelled k same k2).0) in omega (arith, e))
same_body (a_union a b c k n r x) same (an_interface a2 b2 c2 d2 k2 n2 i2 r2 x2) = absurd (let e : 5 ≡ 9 = ap length ((same_spelled k same k2).0) in omega (arith, e))
same_body (a_union a b c k n r x) same (a_union a2 b2 c2 k2 n2 r2 x2) =
    let e = same_spelled k same k2 in
    let f = same_name n e.2 n2 in
    let g = same_directives r f.1 r2 in
    let l = same_members x g.1 x2 in
    let f0 = f.0 in let g0 = g.0 in let l0 = l.0 in let l1 = l.1 in (f0, g0, cc, l1)
same_body (a_union a b c k n r x) same (an_enum_type a2 b2 c2 k2 n2 r2 x2) = absurd (let e : 5 ≡ 4 = ap length ((same_spelled k same k2).0) in omega (arith, e))
same_body (a_union a b c k n r x) same (an_input_type a2 b2 c2 k2 n2 r2 x2) = absurd (let e : 117 ≡ 105 = ap first_letter ((same_spelled k same k2).0) in omega (arith, e))
same_body (an_enum_type a b c k n r x) same (a_scalar a2 b2 k2 n2 r2) = absurd (let e : 4 ≡ 6 = ap length ((same_spelled k same k2).0) in omega (arith, e))
same_body (an_enum_type a b c k n r x) same (an_object_type a2 b2 c2 d2 k2 n2 i2 r2 x2) = absurd (let e : 101 ≡ 116 = ap first_letter ((same_spelled k same k2).0) in omega (arith, e))
same_body (an_enum_type a b c k n r x) same (an_interface a2 b2 c2 d2 k2 n2 i2 r2 x2) = absurd (let e : 4 ≡ 9 = ap length ((same_spelled k same k2).0) in omega (arith, e))
same_body (an_enum_type a b c k n r x) same (a_union a2 b2 c2 k2 n2 r2 x2) = absurd (let e : 4 ≡ 5 = ap length ((same_spelled k same k2).0) in omega (arith, e))
same_body (an_enum_type a b c k n r x) same (an_enum_type a2 b2 c2 k2 n2 r2 x2) =
    let e = same_spelled k same k2 in
    let f = same_name n e.2 n2 in
    let g = same_directives r f.1 r2 in
    let l = same_enum_values x g.1 x2 in
    let f0 = f.0 in let g0 = g.0 in let l0 = l.0 in let l1 = l.1 in (f0, g0, cc, l1)
same_body (an_enum_type a b c k n r x) same (an_input_type a2 b2 c2 k2 n2 r2 x2) = absurd (let e : 4 ≡ 5 = ap length ((same_spelled k same k2).0) in omega (arith, e))
same_body (an_input_type a b c k n r x) same (a_scalar a2 b2 k2 n2 r2) = absurd (let e : 5 ≡ 6 = ap length ((same_spelled k same k2).0) in omega (arith, e))
same_body (an_input_type a b c k n r x) same (an_object_type a2 b2 c2 d2 k2 n2 i2 r2 x2) = absurd (let e : 5 ≡ 4 = ap length ((same_spelled k same k2).0) in omega (arith, e))
same_body (an_input_type a b c k n r x) same (an_interface a2 b2 c2 d2 k2 n2 i2 r2 x2) = absurd (let e : 5 ≡ 9 = ap length ((same_spelled k same k2).0) in omega (arith, e))
same_body (an_input_type a b c k n r x) same (a_union a2 b2 c2 k2 n2 r2 x2) = absurd (let e : 105 ≡ 117 = ap first_letter ((same_spelled k same k2).0) in omega (arith, e))
same_body (an_input_type a b c k n r x) same (an_enum_type a2 b2 c2 k2 n2 r2 x2) = absurd (let e : 5 ≡ 4 = ap length ((same_spelled k same k2).0) in omega (arith, e))
same_body (an_input_type a b c k n r x) same (an_input_type a2 b2 c2 k2 n2 r2 x2) =
    let e = same_spelled k same k2 in
    let f = same_name n e.2 n2 in
    let g = same_directives r f.1 r2 in
    let l = same_inputs brace_never x g.1 x2 in
    let f0 = f.0 in let g0 = g.0 in let l0 = l.0 in let l1 = l.1 in (f0, g0, cc, l1)

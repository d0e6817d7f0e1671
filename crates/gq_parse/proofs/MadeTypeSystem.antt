-- The type system definitions that the descent makes are those that stand there, and where a part of one is missing none stands.
use Rattle.std.proofs.Common.{arith, length, map, eqb, ◌||◌, false-eqb, ◌<◌, ◌≡◌, ◌≢◌, ◌⊎◌, inl, inr, ℕ, Bool, true, false, List, [], ◌∷◌, refl, sym, subst, ◌∙◌, Option, None, codes}
use Rattle.std.proofs.lemmas.Bool.{eqb-true}
use Rattle.gq_text.specs.declared.place.Span.{Span}
use Rattle.gq_tree.specs.Plain.{NameOf, DirectiveOf, RootOf, BodyOf, scalar_type, object_type, interface_type, union_type, enum_type, input_type, TypeSystemOf, schema, type_definition}
use Rattle.gq_parse.specs.Grammar.{Tokens, IsKeyword, covered}
use Rattle.gq_parse.specs.TypeSystem.{IsDescription, IsSchema, IsTypeBody, HasParts, IsTypeSystemDefinition, a_schema_definition, a_type_definition, a_directive_definition, a_schema_extension, a_type_extension}
use Rattle.gq_parse.specs.Helping.Phrases.{Lacks}
use Rattle.gq_parse.specs.Helping.Parts.{filled, has_parts, LacksBody, LacksSchema, IsSchemaExtended, schema_extended, IsTypeExtended, type_extended, IsExtended, IsSchemaDescribed, schema_described, IsTypeDescribed, type_described, IsDirectiveDescribed, directive_described, IsDirectiveOrType, IsDescribed}
use Rattle.gq_parse.proofs.Unique.{same_spelled}
use Rattle.gq_parse.proofs.Fronts.{no_items, some_items}
use Rattle.gq_parse.proofs.UniqueTypeSystem.{same_description, same_schema, same_body}
use Rattle.gq_parse.proofs.UniqueDocuments.{body_opens, schema_opens, one_word, undescribed, body_apart_schema, body_apart_directive, body_apart_extend, schema_apart_directive, schema_apart_extend, directive_apart_extend}

-- a list with items
pub not_empty : {A : Type 0} (xs : List A) → 0 < length xs → xs ≢ []
not_empty [] some h = absurd (omega (arith, some))
not_empty (x ∷ xs) some h = cc

-- lists that were asked whether they are empty
pub found_empty : {A B : Type 0} (f : A → B) (xs : List A) (n : ℕ) (b : Bool) → n ≡ length xs → b ≡ eqb n 0 → b ≡ true → map f xs ≡ []
found_empty f xs n b l e t = no_items f xs (omega (arith, l, eqb-true _ _ (sym e ∙ t)))

pub found_filled : {A B : Type 0} (f : A → B) (xs : List A) (n : ℕ) (b : Bool) → n ≡ length xs → b ≡ eqb n 0 → b ≡ false → map f xs ≢ []
found_filled f xs n b l e t = not_empty _ (some_items f xs (omega (arith, l, false-eqb _ _ (sym t ∙ e))))

-- the parts of a type
filled_has : {A : Type 0} (xs : List A) → filled xs ≡ true → xs ≢ []
filled_has [] t h = absurd (let f : false ≡ true = t in cc)
filled_has (x ∷ xs) t h = cc

filled_lacks : {A : Type 0} (xs : List A) → filled xs ≡ false → xs ≡ []
filled_lacks [] t = refl
filled_lacks (x ∷ xs) t = absurd (let f : true ≡ false = t in cc)

either_filled : {A B : Type 0} (xs : List A) (ys : List B) → (filled xs || filled ys) ≡ true → (xs ≢ []) ⊎ (ys ≢ [])
either_filled [] ys t = inr (filled_has ys t)
either_filled (x ∷ xs) ys t = inl (λ h. cc)

neither_filled : {A B : Type 0} (xs : List A) (ys : List B) → (filled xs || filled ys) ≡ false → ((xs ≢ []) ⊎ (ys ≢ [])) → ⊥
neither_filled [] ys t (inl some) = some refl
neither_filled [] ys t (inr some) = some (filled_lacks ys t)
neither_filled (x ∷ xs) ys t some = absurd (let f : true ≡ false = t in cc)

parts_there : (b : BodyOf Span) → has_parts b ≡ true → HasParts b
parts_there scalar_type t = absurd (let f : false ≡ true = t in cc)
parts_there (object_type is fields) t = either_filled is fields t
parts_there (interface_type is fields) t = either_filled is fields t
parts_there (union_type names) t = filled_has names t
parts_there (enum_type values) t = filled_has values t
parts_there (input_type fields) t = filled_has fields t

parts_lacking : (b : BodyOf Span) → has_parts b ≡ false → HasParts b → ⊥
parts_lacking scalar_type t h = h
parts_lacking (object_type is fields) t h = neither_filled is fields t h
parts_lacking (interface_type is fields) t h = neither_filled is fields t h
parts_lacking (union_type names) t h = h (filled_lacks names t)
parts_lacking (enum_type values) t h = h (filled_lacks values t)
parts_lacking (input_type fields) t h = h (filled_lacks fields t)

pub parts_found : (b : BodyOf Span) (r : Bool) → r ≡ has_parts b → r ≡ true → HasParts b
parts_found b r e t = parts_there b (sym e ∙ t)

pub no_parts_found : (b : BodyOf Span) (r : Bool) → r ≡ has_parts b → r ≡ false → HasParts b → ⊥
no_parts_found b r e t = parts_lacking b (sym e ∙ t)

-- extensions of a schema
pub schema_extension_made : {first : Tokens} {ds : List (DirectiveOf Span)} {rs : List (RootOf Span)} {place : Span} {tokens rest : Tokens} → IsSchema ds rs tokens rest → ((ds ≢ []) ⊎ (rs ≢ [])) → place ≡ covered first rest → IsSchemaExtended first (schema true None ds rs place) tokens rest
schema_extension_made {first} {ds} {rs} {tokens = tokens} {rest = rest} s some is =
    let D : Span → TypeSystemOf Span = λ q. schema true None ds rs q in
    subst (λ (q : Span). IsSchemaExtended first (D q) tokens rest) (sym is) (schema_extended s some)

pub no_schema_extension : {first tokens : Tokens} → LacksSchema tokens → Lacks (IsSchemaExtended first) tokens
no_schema_extension lacks x rest (schema_extended {directives = ds} {roots = rs} s some) = lacks ds rs rest s

pub schema_extension_empty : {first : Tokens} {xs : List (DirectiveOf Span)} {ys : List (RootOf Span)} {tokens a : Tokens} → IsSchema xs ys tokens a → xs ≡ [] → ys ≡ [] → Lacks (IsSchemaExtended first) tokens
schema_extension_empty h no_directives no_roots x rest (schema_extended s (inl some)) = some (sym (same_schema h refl s).0 ∙ no_directives)
schema_extension_empty h no_directives no_roots x rest (schema_extended s (inr some)) = some (sym (same_schema h refl s).1 ∙ no_roots)

-- extensions of a type
pub type_extension_made : {first : Tokens} {n : NameOf Span} {ds : List (DirectiveOf Span)} {b : BodyOf Span} {place : Span} {tokens rest : Tokens} → IsTypeBody n ds b tokens rest → ((ds ≢ []) ⊎ HasParts b) → place ≡ covered first rest → IsTypeExtended first (type_definition true None n ds b place) tokens rest
type_extension_made {first} {n} {ds} {b} {tokens = tokens} {rest = rest} h some is =
    let D : Span → TypeSystemOf Span = λ q. type_definition true None n ds b q in
    subst (λ (q : Span). IsTypeExtended first (D q) tokens rest) (sym is) (type_extended h some)

pub no_type_extension : {first tokens : Tokens} → LacksBody tokens → Lacks (IsTypeExtended first) tokens
no_type_extension lacks x rest (type_extended {name = n} {directives = ds} {body = b} h some) = lacks n ds b rest h

pub type_extension_empty : {first : Tokens} {m : NameOf Span} {xs : List (DirectiveOf Span)} {y : BodyOf Span} {tokens a : Tokens} → IsTypeBody m xs y tokens a → xs ≡ [] → (HasParts y → ⊥) → Lacks (IsTypeExtended first) tokens
type_extension_empty h no_directives no_parts x rest (type_extended b (inl some)) = some (sym (same_body h refl b).1 ∙ no_directives)
type_extension_empty h no_directives no_parts x rest (type_extended b (inr some)) = no_parts (subst HasParts (sym (same_body h refl b).2) some)

-- extensions
pub schema_word_extends : {first : Tokens} {p : Span} {tokens a : Tokens} → IsKeyword (codes "schema") p tokens a → Lacks (IsSchemaExtended first) tokens → Lacks (IsExtended first) tokens
schema_word_extends k lacks x rest (inl h) = lacks x rest h
schema_word_extends {p} {a = a} k lacks x rest (inr (type_extended {body = y} b some)) = body_apart_schema y (one_word (body_opens b) refl (record { place = p; behind = a; keyword = k }))

pub another_word_extends : {first tokens : Tokens} → Lacks (IsKeyword (codes "schema")) tokens → Lacks (IsTypeExtended first) tokens → Lacks (IsExtended first) tokens
another_word_extends no_word lacks x rest (inl (schema_extended s some)) = let o = schema_opens s in no_word o.place o.behind o.keyword
another_word_extends no_word lacks x rest (inr h) = lacks x rest h

-- definitions of a schema
pub schema_made : {first : Tokens} {o : Option (NameOf Span)} {ds : List (DirectiveOf Span)} {rs : List (RootOf Span)} {place : Span} {tokens rest : Tokens} → IsSchema ds rs tokens rest → rs ≢ [] → place ≡ covered first rest → IsSchemaDescribed first o (schema false o ds rs place) tokens rest
schema_made {first} {o} {ds} {rs} {tokens = tokens} {rest = rest} s some is =
    let D : Span → TypeSystemOf Span = λ q. schema false o ds rs q in
    subst (λ (q : Span). IsSchemaDescribed first o (D q) tokens rest) (sym is) (schema_described s some)

pub no_schema : {first : Tokens} {o : Option (NameOf Span)} {tokens : Tokens} → LacksSchema tokens → Lacks (IsSchemaDescribed first o) tokens
no_schema lacks x rest (schema_described {directives = ds} {roots = rs} s some) = lacks ds rs rest s

pub schema_without_roots : {first : Tokens} {o : Option (NameOf Span)} {xs : List (DirectiveOf Span)} {ys : List (RootOf Span)} {tokens a : Tokens} → IsSchema xs ys tokens a → ys ≡ [] → Lacks (IsSchemaDescribed first o) tokens
schema_without_roots h no_roots x rest (schema_described s some) = some (sym (same_schema h refl s).1 ∙ no_roots)

-- definitions of a type
pub type_made : {first : Tokens} {o : Option (NameOf Span)} {n : NameOf Span} {ds : List (DirectiveOf Span)} {b : BodyOf Span} {place : Span} {tokens rest : Tokens} → IsTypeBody n ds b tokens rest → place ≡ covered first rest → IsTypeDescribed first o (type_definition false o n ds b place) tokens rest
type_made {first} {o} {n} {ds} {b} {tokens = tokens} {rest = rest} h is =
    let D : Span → TypeSystemOf Span = λ q. type_definition false o n ds b q in
    subst (λ (q : Span). IsTypeDescribed first o (D q) tokens rest) (sym is) (type_described h)

pub no_type_definition : {first : Tokens} {o : Option (NameOf Span)} {tokens : Tokens} → LacksBody tokens → Lacks (IsTypeDescribed first o) tokens
no_type_definition lacks x rest (type_described {name = n} {directives = ds} {body = b} h) = lacks n ds b rest h

-- definitions
pub directive_word_defines : {first : Tokens} {o : Option (NameOf Span)} {p : Span} {tokens a : Tokens} → IsKeyword (codes "directive") p tokens a → Lacks (IsDirectiveDescribed first o) tokens → Lacks (IsDirectiveOrType first o) tokens
directive_word_defines k lacks x rest (inl h) = lacks x rest h
directive_word_defines {p} {a = a} k lacks x rest (inr (type_described {body = y} b)) = body_apart_directive y (one_word (body_opens b) refl (record { place = p; behind = a; keyword = k }))

pub no_directive_defined : {first : Tokens} {o : Option (NameOf Span)} {tokens : Tokens} → Lacks (IsKeyword (codes "directive")) tokens → Lacks (IsTypeDescribed first o) tokens → Lacks (IsDirectiveOrType first o) tokens
no_directive_defined no_word lacks x rest (inl (directive_described {place = p} b c d e f k m n xs r l)) = no_word p b k
no_directive_defined no_word lacks x rest (inr h) = lacks x rest h

pub schema_word_defines : {first : Tokens} {o : Option (NameOf Span)} {p : Span} {tokens a : Tokens} → IsKeyword (codes "schema") p tokens a → Lacks (IsSchemaDescribed first o) tokens → Lacks (IsDescribed first o) tokens
schema_word_defines k lacks x rest (inl h) = lacks x rest h
schema_word_defines k lacks x rest (inr (inl (directive_described b c d e f k2 m n xs r l))) = schema_apart_directive (same_spelled k refl k2).0
schema_word_defines {p} {a = a} k lacks x rest (inr (inr (type_described {body = y} b))) = body_apart_schema y (one_word (body_opens b) refl (record { place = p; behind = a; keyword = k }))

pub no_schema_defined : {first : Tokens} {o : Option (NameOf Span)} {tokens : Tokens} → Lacks (IsKeyword (codes "schema")) tokens → Lacks (IsDirectiveOrType first o) tokens → Lacks (IsDescribed first o) tokens
no_schema_defined no_word lacks x rest (inl (schema_described s some)) = let o = schema_opens s in no_word o.place o.behind o.keyword
no_schema_defined no_word lacks x rest (inr h) = lacks x rest h

-- an extension or a definition
pub extends : {p : Span} {x : TypeSystemOf Span} {tokens a rest : Tokens} → IsKeyword (codes "extend") p tokens a → IsExtended tokens x a rest → IsTypeSystemDefinition x tokens rest
extends {a = a} k (inl (schema_extended s some)) = a_schema_extension a k s some
extends {a = a} k (inr (type_extended b some)) = a_type_extension a k b some

pub defines : {o : Option (NameOf Span)} {x : TypeSystemOf Span} {tokens a rest : Tokens} → IsDescription o tokens a → IsDescribed tokens o x a rest → IsTypeSystemDefinition x tokens rest
defines {a = a} said (inl (schema_described s some)) = a_schema_definition a said s some
defines {a = a} said (inr (inl (directive_described b c d e f k m n xs r l))) = a_directive_definition a b c d e f said k m n xs r l
defines {a = a} said (inr (inr (type_described b))) = a_type_definition a said b

-- behind the word of an extension
pub extends_only : {p : Span} {tokens a : Tokens} → IsKeyword (codes "extend") p tokens a → Lacks (IsExtended tokens) a → Lacks IsTypeSystemDefinition tokens
extends_only {p} {a = a} k lacks _ rest (a_schema_definition c said s some) = schema_apart_extend (one_word (schema_opens s) refl (undescribed (record { place = p; behind = a; keyword = k }) refl said))
extends_only {p} {a = a} k lacks _ rest (a_type_definition {body = x} c said b) = body_apart_extend x (one_word (body_opens b) refl (undescribed (record { place = p; behind = a; keyword = k }) refl said))
extends_only {p} {a = a} k lacks _ rest (a_directive_definition c d e f g h said k2 m n xs r l) = directive_apart_extend (same_spelled k2 refl (undescribed (record { place = p; behind = a; keyword = k }) refl said).keyword).0
extends_only {tokens = tokens} k lacks x rest (a_schema_extension {directives = ds} {roots = rs} c k2 s some) =
    lacks x rest (inl (schema_extended (subst (λ (t : Tokens). IsSchema ds rs t rest) (sym (same_spelled k refl k2).2) s) some))
extends_only {tokens = tokens} k lacks x rest (a_type_extension {name = n} {directives = ds} {body = b} c k2 h some) =
    lacks x rest (inr (type_extended (subst (λ (t : Tokens). IsTypeBody n ds b t rest) (sym (same_spelled k refl k2).2) h) some))

-- behind a description
record Behind (x : TypeSystemOf Span) (tokens rest : Tokens) : Type 0 where
  said : Option (NameOf Span)
  behind : Tokens
  says : IsDescription said tokens behind
  is : IsDescribed tokens said x behind rest

described_as : {x : TypeSystemOf Span} {tokens rest : Tokens} → Lacks (IsKeyword (codes "extend")) tokens → IsTypeSystemDefinition x tokens rest → Behind x tokens rest
described_as no_word (a_schema_definition {description = o} c said s some) = record { said = o; behind = c; says = said; is = inl (schema_described s some) }
described_as no_word (a_type_definition {description = o} c said b) = record { said = o; behind = c; says = said; is = inr (inr (type_described b)) }
described_as no_word (a_directive_definition {description = o} c d e f g h said k m n xs r l) = record { said = o; behind = c; says = said; is = inr (inl (directive_described d e f g h k m n xs r l)) }
described_as no_word (a_schema_extension {place = p} c k s some) = absurd (no_word p c k)
described_as no_word (a_type_extension {place = p} c k b some) = absurd (no_word p c k)

pub defines_only : {o : Option (NameOf Span)} {tokens a : Tokens} → Lacks (IsKeyword (codes "extend")) tokens → IsDescription o tokens a → Lacks (IsDescribed tokens o) a → Lacks IsTypeSystemDefinition tokens
defines_only {o} {tokens} {a} no_word said lacks x rest d = by (described_as no_word d)
  where
    by : Behind x tokens rest → ⊥
    by h =
        let e = same_description said refl h.says in
        lacks x rest (subst (λ (t : Tokens). IsDescribed tokens o x t rest) (sym e.1) (subst (λ (p : Option (NameOf Span)). IsDescribed tokens p x h.behind rest) (sym e.0) h.is))

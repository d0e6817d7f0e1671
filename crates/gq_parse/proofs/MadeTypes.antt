-- The types that the descent makes are those that stand there, and where a part of one is missing none stands.
use Rattle.std.proofs.Common.{◌≡◌, true, List, [], ◌∷◌, refl, ap, sym, subst, ◌∙◌, Some, None, codes}
use Rattle.gq_text.specs.declared.place.Span.{Span}
use Rattle.gq_lex.specs.declared.token.Kind.TheVariants as kind
use Rattle.gq_lex.specs.Tokens.{Lexeme}
use Rattle.gq_tree.specs.Plain.{NameOf, DirectiveOf, InputOf, FieldDefinitionOf, EnumValueOf, BodyOf, scalar_type, object_type, interface_type, union_type, enum_type, input_type}
use Rattle.gq_parse.specs.declared.type_definitions.TypeKind.{TypeKind}
use Rattle.gq_parse.specs.declared.type_definitions.TypeKind.TheVariants as of
use Rattle.gq_parse.specs.Grammar.{Tokens, IsPunctuator, IsName, IsKeyword, NotNext, OptionalMany, IsDirectives}
use Rattle.gq_parse.specs.TypeSystem.{IsImplements, IsFieldsDefinition, IsMembers, IsEnumValueDefinition, IsInputValue, IsTypeBody, a_scalar, an_object_type, an_interface, a_union, an_enum_type, an_input_type}
use Rattle.gq_parse.specs.Helping.Phrases.{Lacks}
use Rattle.gq_parse.specs.Helping.Parts.{kind_word, kind_named, IsNamed, IsFielded, IsBodyBehind, LacksNamed, LacksFielded, LacksBehind, LacksBody}
use Rattle.gq_parse.proofs.Unique.{not_next, spelled_begins, same_name, same_spelled}
use Rattle.gq_parse.proofs.UniqueValues.{same_directives}
use Rattle.gq_parse.proofs.UniqueTypeSystem.{same_implements}
use Rattle.gq_parse.proofs.TypeWords.{word_of_kind, kind_is}

-- a type by its keyword
record ByKeyword (name : NameOf Span) (directives : List (DirectiveOf Span)) (body : BodyOf Span) (tokens rest : Tokens) : Type 0 where
  kind : TypeKind
  place : Span
  behind : Tokens
  keyword : IsKeyword (kind_word kind) place tokens behind
  by : IsBodyBehind kind name directives body behind rest

by_keyword : {name : NameOf Span} {directives : List (DirectiveOf Span)} {body : BodyOf Span} {tokens rest : Tokens} → IsTypeBody name directives body tokens rest → ByKeyword name directives body tokens rest
by_keyword (a_scalar {place = p} a b k n r) = record { kind = of.Scalar; place = p; behind = a; keyword = k; by = (record { behind = b; names = n; directs = r }, refl) }
by_keyword (an_object_type {is = is} {fields = fields} {place = p} a b c d k n i r x) = record { kind = of.Object; place = p; behind = a; keyword = k; by = (is, fields, record { a = b; b = c; c = d; names = n; implements = i; directs = r; defines = x }, refl) }
by_keyword (an_interface {is = is} {fields = fields} {place = p} a b c d k n i r x) = record { kind = of.Interface; place = p; behind = a; keyword = k; by = (is, fields, record { a = b; b = c; c = d; names = n; implements = i; directs = r; defines = x }, refl) }
by_keyword (a_union {names = names} {place = p} a b c k n r x) = record { kind = of.Union; place = p; behind = a; keyword = k; by = (names, c, record { behind = b; names = n; directs = r }, x, refl) }
by_keyword (an_enum_type {values = values} {place = p} a b c k n r x) = record { kind = of.Enum; place = p; behind = a; keyword = k; by = (values, c, record { behind = b; names = n; directs = r }, x, refl) }
by_keyword (an_input_type {fields = fields} {place = p} a b c k n r x) = record { kind = of.InputObject; place = p; behind = a; keyword = k; by = (fields, c, record { behind = b; names = n; directs = r }, x, refl) }

one_type : (j k : TypeKind) → kind_word j ≡ kind_word k → j ≡ k
one_type j k e = let s : Some j ≡ Some k = sym (kind_is j) ∙ ap kind_named e ∙ kind_is k in cc

body_by : (k : TypeKind) {place : Span} {name : NameOf Span} {directives : List (DirectiveOf Span)} {body : BodyOf Span} {tokens a rest : Tokens} → IsKeyword (kind_word k) place tokens a → IsTypeBody name directives body tokens rest → IsBodyBehind k name directives body a rest
body_by k {place} {name} {directives} {body} {tokens} {a} {rest} word b =
    let h = by_keyword b in
    let e = same_spelled h.keyword refl word in
    subst (λ (t : Tokens). IsBodyBehind k name directives body t rest) e.2 (subst (λ (j : TypeKind). IsBodyBehind j name directives body h.behind rest) (one_type h.kind k e.0) h.by)

pub body_missing : (k : TypeKind) {place : Span} {tokens a : Tokens} → IsKeyword (kind_word k) place tokens a → LacksBehind k a → LacksBody tokens
body_missing k word lacks name directives body rest b = lacks name directives body rest (body_by k word b)

-- a type from its parts
made_scalar : {place : Span} {name : NameOf Span} {directives : List (DirectiveOf Span)} {body : BodyOf Span} {tokens a rest : Tokens} → IsKeyword (codes "scalar") place tokens a → IsNamed name directives a rest → body ≡ scalar_type → IsTypeBody name directives body tokens rest
made_scalar {name} {directives} {tokens} {a} {rest} word n e = subst (λ (b : BodyOf Span). IsTypeBody name directives b tokens rest) (sym e) (a_scalar a n.behind word n.names n.directs)

made_object : {place : Span} {name : NameOf Span} {is : List (NameOf Span)} {directives : List (DirectiveOf Span)} {fields : List (FieldDefinitionOf Span)} {body : BodyOf Span} {tokens a rest : Tokens} → IsKeyword (codes "type") place tokens a → IsFielded name is directives fields a rest → body ≡ object_type is fields → IsTypeBody name directives body tokens rest
made_object {name} {directives} {tokens} {a} {rest} word f e = subst (λ (b : BodyOf Span). IsTypeBody name directives b tokens rest) (sym e) (an_object_type a f.a f.b f.c word f.names f.implements f.directs f.defines)

made_interface : {place : Span} {name : NameOf Span} {is : List (NameOf Span)} {directives : List (DirectiveOf Span)} {fields : List (FieldDefinitionOf Span)} {body : BodyOf Span} {tokens a rest : Tokens} → IsKeyword (codes "interface") place tokens a → IsFielded name is directives fields a rest → body ≡ interface_type is fields → IsTypeBody name directives body tokens rest
made_interface {name} {directives} {tokens} {a} {rest} word f e = subst (λ (b : BodyOf Span). IsTypeBody name directives b tokens rest) (sym e) (an_interface a f.a f.b f.c word f.names f.implements f.directs f.defines)

made_union : {place : Span} {name : NameOf Span} {names : List (NameOf Span)} {directives : List (DirectiveOf Span)} {body : BodyOf Span} {tokens a b rest : Tokens} → IsKeyword (codes "union") place tokens a → IsNamed name directives a b → IsMembers names b rest → body ≡ union_type names → IsTypeBody name directives body tokens rest
made_union {name} {directives} {tokens} {a} {b} {rest} word n m e = subst (λ (x : BodyOf Span). IsTypeBody name directives x tokens rest) (sym e) (a_union a n.behind b word n.names n.directs m)

made_enum : {place : Span} {name : NameOf Span} {values : List (EnumValueOf Span)} {directives : List (DirectiveOf Span)} {body : BodyOf Span} {tokens a b rest : Tokens} → IsKeyword (codes "enum") place tokens a → IsNamed name directives a b → OptionalMany IsEnumValueDefinition kind.BraceOpen kind.BraceClose values b rest → body ≡ enum_type values → IsTypeBody name directives body tokens rest
made_enum {name} {directives} {tokens} {a} {b} {rest} word n m e = subst (λ (x : BodyOf Span). IsTypeBody name directives x tokens rest) (sym e) (an_enum_type a n.behind b word n.names n.directs m)

made_input : {place : Span} {name : NameOf Span} {fields : List (InputOf Span)} {directives : List (DirectiveOf Span)} {body : BodyOf Span} {tokens a b rest : Tokens} → IsKeyword (codes "input") place tokens a → IsNamed name directives a b → OptionalMany IsInputValue kind.BraceOpen kind.BraceClose fields b rest → body ≡ input_type fields → IsTypeBody name directives body tokens rest
made_input {name} {directives} {tokens} {a} {b} {rest} word n m e = subst (λ (x : BodyOf Span). IsTypeBody name directives x tokens rest) (sym e) (an_input_type a n.behind b word n.names n.directs m)

pub body_of : (k : TypeKind) {place : Span} {name : NameOf Span} {directives : List (DirectiveOf Span)} {body : BodyOf Span} {tokens a rest : Tokens} → IsKeyword (kind_word k) place tokens a → IsBodyBehind k name directives body a rest → IsTypeBody name directives body tokens rest
body_of of.Scalar word h = made_scalar word h.0 h.1
body_of of.Object word h = made_object word h.2 h.3
body_of of.Interface word h = made_interface word h.2 h.3
body_of of.Union word h = made_union word h.2 h.3 h.4
body_of of.Enum word h = made_enum word h.2 h.3 h.4
body_of of.InputObject word h = made_input word h.2 h.3 h.4

-- the keyword
pub type_word : {t : Lexeme} {tokens rest other : Tokens} (k : TypeKind) → IsPunctuator kind.Name tokens rest → tokens ≡ t ∷ other → kind_named t.text ≡ Some k → IsKeyword (kind_word k) t.span tokens rest
type_word {t} {tokens} k name first e =
    let same : name.token ≡ t = let f = sym name.first ∙ first in cc in
    record { token = name.token; first = name.first; kind = name.kind; spelling = sym (word_of_kind t.text k e) ∙ ap (λ (u : Lexeme). u.text) (sym same); span = ap (λ (u : Lexeme). u.span) (sym same) }

pub no_type_at : {tokens : Tokens} → NotNext kind.Name tokens → LacksBody tokens
no_type_at free name directives body rest b = not_next _ _ free (spelled_begins (by_keyword b).keyword)

pub no_type_at_end : {tokens : Tokens} → tokens ≡ [] → LacksBody tokens
no_type_at_end e name directives body rest b = let h = (by_keyword b).keyword.first in let f = sym h ∙ e in cc

pub no_type_word : {t : Lexeme} {tokens a : Tokens} → tokens ≡ t ∷ a → kind_named t.text ≡ None → LacksBody tokens
no_type_word {t} first none name directives body rest b =
    let h = by_keyword b in
    let e : h.keyword.token ≡ t = let f = sym h.keyword.first ∙ first in cc in
    let s : kind_word h.kind ≡ t.text = h.keyword.spelling ∙ ap (λ (u : Lexeme). u.text) e in
    let g : Some h.kind ≡ None = sym (kind_is h.kind) ∙ ap kind_named s ∙ none in cc

-- a name and directives
pub no_name_of_type : {tokens : Tokens} → NotNext kind.Name tokens → LacksNamed tokens
no_name_of_type free name directives rest n = not_next _ _ free (spelled_begins n.names)

pub no_directives_of_type : {name : NameOf Span} {tokens a : Tokens} → IsName name tokens a → Lacks (IsDirectives true) a → LacksNamed tokens
no_directives_of_type n lacks name directives rest h = lacks directives rest (subst (λ (t : Tokens). IsDirectives true directives t rest) (sym (same_name n refl h.names).1) h.directs)

same_named : {n m : NameOf Span} {xs ys : List (DirectiveOf Span)} {tokens a b : Tokens} → IsNamed n xs tokens a → IsNamed m ys tokens b → a ≡ b
same_named h i = (same_directives h.directs (same_name h.names refl i.names).1 i.directs).1

-- a name, interfaces, directives and fields
pub no_fielded_name : {tokens : Tokens} → NotNext kind.Name tokens → LacksFielded tokens
no_fielded_name free name is directives fields rest h = not_next _ _ free (spelled_begins h.names)

pub no_fielded_interfaces : {n : NameOf Span} {tokens a : Tokens} → IsName n tokens a → Lacks IsImplements a → LacksFielded tokens
no_fielded_interfaces n lacks name is directives fields rest h = lacks is h.b (subst (λ (t : Tokens). IsImplements is t h.b) (sym (same_name n refl h.names).1) h.implements)

pub no_fielded_directives : {n : NameOf Span} {xs : List (NameOf Span)} {tokens a b : Tokens} → IsName n tokens a → IsImplements xs a b → Lacks (IsDirectives true) b → LacksFielded tokens
no_fielded_directives n i lacks name is directives fields rest h =
    lacks directives h.c (subst (λ (t : Tokens). IsDirectives true directives t h.c) (sym (same_implements i (same_name n refl h.names).1 h.implements).1) h.directs)

pub no_fielded_fields : {n : NameOf Span} {xs : List (NameOf Span)} {ds : List (DirectiveOf Span)} {tokens a b c : Tokens} → IsName n tokens a → IsImplements xs a b → IsDirectives true ds b c → Lacks IsFieldsDefinition c → LacksFielded tokens
no_fielded_fields n i r lacks name is directives fields rest h =
    lacks fields rest (subst (λ (t : Tokens). IsFieldsDefinition fields t rest) (sym (same_directives r (same_implements i (same_name n refl h.names).1 h.implements).1 h.directs).1) h.defines)

-- what stands behind the keyword
pub no_scalar : {tokens : Tokens} → LacksNamed tokens → LacksBehind of.Scalar tokens
no_scalar lacks name directives body rest h = lacks name directives rest h.0

pub no_object : {tokens : Tokens} → LacksFielded tokens → LacksBehind of.Object tokens
no_object lacks name directives body rest h = lacks name h.0 directives h.1 rest h.2

pub no_interface : {tokens : Tokens} → LacksFielded tokens → LacksBehind of.Interface tokens
no_interface lacks name directives body rest h = lacks name h.0 directives h.1 rest h.2

pub no_union : {tokens : Tokens} → LacksNamed tokens → LacksBehind of.Union tokens
no_union lacks name directives body rest h = lacks name directives h.1 h.2

pub no_union_members : {n : NameOf Span} {ds : List (DirectiveOf Span)} {tokens a : Tokens} → IsNamed n ds tokens a → Lacks IsMembers a → LacksBehind of.Union tokens
no_union_members n lacks name directives body rest h = lacks h.0 rest (subst (λ (t : Tokens). IsMembers h.0 t rest) (sym (same_named n h.2)) h.3)

pub no_enum : {tokens : Tokens} → LacksNamed tokens → LacksBehind of.Enum tokens
no_enum lacks name directives body rest h = lacks name directives h.1 h.2

pub no_enum_values : {n : NameOf Span} {ds : List (DirectiveOf Span)} {tokens a : Tokens} → IsNamed n ds tokens a → Lacks (OptionalMany IsEnumValueDefinition kind.BraceOpen kind.BraceClose) a → LacksBehind of.Enum tokens
no_enum_values n lacks name directives body rest h = lacks h.0 rest (subst (λ (t : Tokens). OptionalMany IsEnumValueDefinition kind.BraceOpen kind.BraceClose h.0 t rest) (sym (same_named n h.2)) h.3)

pub no_input : {tokens : Tokens} → LacksNamed tokens → LacksBehind of.InputObject tokens
no_input lacks name directives body rest h = lacks name directives h.1 h.2

pub no_input_fields : {n : NameOf Span} {ds : List (DirectiveOf Span)} {tokens a : Tokens} → IsNamed n ds tokens a → Lacks (OptionalMany IsInputValue kind.BraceOpen kind.BraceClose) a → LacksBehind of.InputObject tokens
no_input_fields n lacks name directives body rest h = lacks h.0 rest (subst (λ (t : Tokens). OptionalMany IsInputValue kind.BraceOpen kind.BraceClose h.0 t rest) (sym (same_named n h.2)) h.3)

-- The directives, types and definitions of variables that the descent makes are those that stand there, and where a part of one is missing none stands.
use Rattle.std.proofs.Common.{◌≡◌, Bool, true, List, refl, ap, sym, subst, ◌∙◌, Option, Some, Global, Box}
use Rattle.gq_text.specs.declared.place.Span.{Span}
use Rattle.gq_lex.specs.declared.token.Kind.TheVariants as kind
use Rattle.gq_tree.specs.Plain.{NameOf, Val, DirectiveOf, TypeOf, list_of, non_null, VariableOf}
use Rattle.gq_tree.specs.Views.{name_of, type_view}
use Rattle.gq_tree.specs.declared.tree.Name.{Name}
use Rattle.gq_tree.specs.declared.types.TypeRef.{TypeRef}
use Rattle.gq_tree.specs.declared.types.TypeRef.TheVariants as variant
use Rattle.gq_tree.proofs.Trees.{view_named, view_list_of, view_non_null}
use Rattle.gq_parse.specs.Grammar.{Tokens, covered, IsPunctuator, IsName, NotNext, IsValue, IsArguments, IsDirectives, no_directive, a_directive, IsType, without_null, IsNullableType, named_type, list_type, IsDefaultValue, no_default, a_default, IsVariableDefinition, a_variable_definition}
use Rattle.gq_parse.specs.Helping.Phrases.{Begins, Lacks, IsVariable, IsLoneValue, lone, IsDirective, one_directive, Unique}
use Rattle.gq_parse.proofs.Unique.{not_next, moved, one_kind, punctuator_begins, spelled_begins, same_punctuator, same_name}
use Rattle.gq_parse.proofs.UniqueValues.{same_arguments, same_type, same_default}
use Rattle.gq_parse.proofs.Fronts.{Front, no_more, one_more}

-- directives
pub directive_of : {constant : Bool} {n : NameOf Span} {place : Span} {arguments : List (Val Span)} {tokens a b rest : Tokens} → IsPunctuator kind.At tokens a → IsName n a b → IsArguments constant arguments b rest → place ≡ covered tokens rest → IsDirective constant (record { name = n; arguments = arguments; place = place }) tokens rest
directive_of {constant} {n} {place} {arguments} {tokens} {a} {b} {rest} m h r e =
    let D : Span → DirectiveOf Span = λ p. record { name = n; arguments = arguments; place = p } in
    subst (λ (p : Span). IsDirective constant (D p) tokens rest) (sym e) (one_directive a b m h r)

unique_directive : (constant : Bool) → Unique (IsDirective constant)
unique_directive constant x y tokens other _ _ (one_directive a b m n r) same (one_directive a2 b2 m2 n2 r2) =
    let d = same_name n (same_punctuator m same m2) n2 in
    let e = same_arguments r d.1 r2 in
    let d0 = d.0 in
    let e0 = e.0 in
    let e1 = e.1 in
    (cc, e1)

pub front_directives : {constant : Bool} {ds : List (DirectiveOf Span)} {tokens rest : Tokens} → Front (IsDirective constant) ds tokens rest → NotNext kind.At rest → IsDirectives constant ds tokens rest
front_directives no_more free = no_directive free
front_directives (one_more c (one_directive a b m n r) others) free = a_directive a b c m n r (front_directives others free)

behind_directives : {constant : Bool} {ds zs : List (DirectiveOf Span)} {tokens other a rest : Tokens} → Front (IsDirective constant) ds tokens a → Begins kind.At a → Lacks (IsDirective constant) a → tokens ≡ other → IsDirectives constant zs other rest → ⊥
behind_directives no_more begins lacks same (no_directive free) = not_next _ _ free (moved _ same begins)
behind_directives no_more begins lacks same (a_directive a b c m n r ds) = lacks _ c (one_directive a b (subst (λ (t : Tokens). IsPunctuator kind.At t a) (sym same) m) n r)
behind_directives (one_more c (one_directive a b m n r) others) begins lacks same (no_directive free) = not_next _ _ free (moved _ same (punctuator_begins m))
behind_directives {constant} (one_more c d others) begins lacks same (a_directive a2 b2 c2 m2 n2 r2 ds2) = behind_directives others begins lacks (unique_directive constant _ _ _ _ c c2 d same (one_directive a2 b2 m2 n2 r2)).1 ds2

pub no_directives : {constant : Bool} {ds : List (DirectiveOf Span)} {tokens a b : Tokens} → Front (IsDirective constant) ds tokens a → IsPunctuator kind.At a b → Lacks (IsDirective constant) a → Lacks (IsDirectives constant) tokens
no_directives front m lacks zs rest ds = behind_directives front (punctuator_begins m) lacks refl ds

-- types
pub type_named : (n : Name) {tokens rest : Tokens} → IsName (name_of n) tokens rest → IsNullableType (type_view (variant.Named n)) tokens rest
type_named n {tokens} {rest} h = subst (λ (t : TypeOf Span). IsNullableType t tokens rest) (sym (view_named n)) (named_type h)

pub type_list : (b : Box TypeRef Global) (item : TypeRef) {tokens a c rest : Tokens} → b.value ≡ item → IsPunctuator kind.BracketOpen tokens a → IsType (type_view item) a c → IsPunctuator kind.BracketClose c rest → IsNullableType (type_view (variant.List b)) tokens rest
type_list b item {tokens} {a} {c} {rest} e m t k = subst (λ (t : TypeOf Span). IsNullableType t tokens rest) (sym (view_list_of b ∙ ap (λ (i : TypeRef). list_of (type_view i)) e)) (list_type a c m t k)

pub type_non_null : (b : Box TypeRef Global) (inner : TypeRef) {tokens a rest : Tokens} → b.value ≡ inner → IsNullableType (type_view inner) tokens a → IsPunctuator kind.Bang a rest → IsType (type_view (variant.NonNull b)) tokens rest
type_non_null b inner {tokens} {a} {rest} e t m = subst (λ (t : TypeOf Span). IsType t tokens rest) (sym (view_non_null b ∙ ap (λ (i : TypeRef). non_null (type_view i)) e)) (without_null a t m)

pub item_not_closed : {t : TypeOf Span} {tokens a b : Tokens} → IsPunctuator kind.BracketOpen tokens a → IsType t a b → NotNext kind.BracketClose b → Lacks IsNullableType tokens
item_not_closed m t free u rest (named_type n) = let h = one_kind _ _ _ (punctuator_begins m) (spelled_begins n) in cc
item_not_closed m t free u rest (list_type a2 b2 m2 t2 k2) = not_next _ _ free (moved _ (sym (same_type t (same_punctuator m refl m2) t2).1) (punctuator_begins k2))

-- default values
pub default_of : {x : Val Span} {tokens a rest : Tokens} → IsPunctuator kind.Equals tokens a → IsLoneValue true x a rest → IsDefaultValue (Some x) tokens rest
default_of {a = a} m (lone v) = a_default a m v

pub default_missing : {tokens a : Tokens} → IsPunctuator kind.Equals tokens a → Lacks (IsLoneValue true) a → Lacks IsDefaultValue tokens
default_missing m lacks x rest (no_default free) = not_next _ _ free (punctuator_begins m)
default_missing m lacks _ rest (a_default {says = says} {below = below} a2 m2 v2) =
    lacks _ rest (lone (subst (λ (t : Tokens). IsValue true says below t rest) (sym (same_punctuator m refl m2)) v2))

-- definitions of variables
pub variable_definition_of : {n : NameOf Span} {place : Span} {t : TypeOf Span} {default : Option (Val Span)} {ds : List (DirectiveOf Span)} {tokens b c d e rest : Tokens} → IsVariable n tokens b → place ≡ covered tokens b → IsPunctuator kind.Colon b c → IsType t c d → IsDefaultValue default d e → IsDirectives true ds e rest →
    IsVariableDefinition (record { name = n; place = place; type_ref = t; default = default; directives = ds }) tokens rest
variable_definition_of {n} {place} {t} {default} {ds} {tokens} {b} {c} {d} {e} {rest} v is k u w ws =
    let V : Span → VariableOf Span = λ p. record { name = n; place = p; type_ref = t; default = default; directives = ds } in
    subst (λ (p : Span). IsVariableDefinition (V p) tokens rest) (sym is) (a_variable_definition v.behind b c d e v.dollar v.names k u w ws)

pub no_variable : {tokens : Tokens} → Lacks IsVariable tokens → Lacks IsVariableDefinition tokens
no_variable lacks x rest (a_variable_definition {name = name} a b c d e m n k u w ws) = lacks name b (record { behind = a; dollar = m; names = n })

pub no_colon_behind : {n : NameOf Span} {tokens a : Tokens} → IsVariable n tokens a → NotNext kind.Colon a → Lacks IsVariableDefinition tokens
no_colon_behind v free x rest (a_variable_definition a2 b2 c2 d2 e2 m2 n2 k2 u2 w2 ws2) =
    not_next _ _ free (moved _ (sym (same_name v.names (same_punctuator v.dollar refl m2) n2).1) (punctuator_begins k2))

pub no_default_behind : {n : NameOf Span} {t : TypeOf Span} {tokens a b c : Tokens} → IsVariable n tokens a → IsPunctuator kind.Colon a b → IsType t b c → Lacks IsDefaultValue c → Lacks IsVariableDefinition tokens
no_default_behind v k u lacks x rest (a_variable_definition {default = default} a2 b2 c2 d2 e2 m2 n2 k2 u2 w2 ws2) =
    let at = same_punctuator k (same_name v.names (same_punctuator v.dollar refl m2) n2).1 k2 in
    lacks default e2 (subst (λ (y : Tokens). IsDefaultValue default y e2) (sym (same_type u at u2).1) w2)

pub no_directives_behind : {n : NameOf Span} {t : TypeOf Span} {default : Option (Val Span)} {tokens a b c d : Tokens} → IsVariable n tokens a → IsPunctuator kind.Colon a b → IsType t b c → IsDefaultValue default c d → Lacks (IsDirectives true) d → Lacks IsVariableDefinition tokens
no_directives_behind v k u w lacks x rest (a_variable_definition {directives = ds} a2 b2 c2 d2 e2 m2 n2 k2 u2 w2 ws2) =
    let at = same_punctuator k (same_name v.names (same_punctuator v.dollar refl m2) n2).1 k2 in
    lacks ds rest (subst (λ (y : Tokens). IsDirectives true ds y rest) (sym (same_default w (same_type u at u2).1 w2).1) ws2)

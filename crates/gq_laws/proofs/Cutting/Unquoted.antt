-- No definition ends with a string.
use Rattle.std.proofs.Common.{◌≡◌, ℕ, List, [], ◌∷◌, ◌++◌, Bool, Option, refl, sym, ap, subst, ◌∙◌, append_assoc}
use Rattle.gq_text.specs.declared.place.Span.{Span}
use Rattle.gq_lex.specs.declared.token.Kind.{Kind}
use Rattle.gq_lex.specs.declared.token.Kind.TheVariants as kind
use Rattle.gq_lex.specs.Tokens.{Lexeme}
use Rattle.gq_tree.specs.declared.tree.OperationKind.{OperationKind}
use Rattle.gq_tree.specs.declared.type_system.DirectiveLocation.{DirectiveLocation}
use Rattle.gq_tree.specs.Plain.{NameOf, Val, DirectiveOf, TypeOf, Sels, Def, InputOf, FieldDefinitionOf, EnumValueOf, RootOf, BodyOf, TypeSystemOf}
use Rattle.gq_parse.specs.Documents.{IsDefinition, an_operation, a_fragment, a_type_system_definition}
use Rattle.gq_parse.specs.Grammar.{Tokens, IsPunctuator, IsSpelled, IsName, ManyUntil, closed as many_closed, another, OptionalMany, absent, enclosed}
use Rattle.gq_parse.specs.Grammar.{IsArgument, an_argument, IsDirectives, no_directive, a_directive, IsType, nullable, without_null, IsNullableType, named_type, list_type, IsDefaultValue}
use Rattle.gq_parse.specs.Grammar.{no_default, a_default}
use Rattle.gq_parse.specs.Grammar.{IsSelectionSet, braces, IsSelections, set_closed, selection, IsOperationType, a_query, a_mutation, a_subscription, IsOperationDefinition, bare, typed}
use Rattle.gq_parse.specs.Grammar.{IsFragmentDefinition, fragment_on}
use Rattle.gq_parse.specs.TypeSystem.{IsDescription, no_description, a_description, a_block_description, Separated, last, next, Delimited, plain, led, IsRoot, a_root, IsSchema, a_schema}
use Rattle.gq_parse.specs.TypeSystem.{IsInputValue, an_input_value}
use Rattle.gq_parse.specs.TypeSystem.{IsFieldDefinition, a_field_definition, IsEnumValueDefinition, an_enum_value, IsImplements, no_interfaces, interfaces, IsMembers, no_members, members}
use Rattle.gq_parse.specs.TypeSystem.{IsTypeBody, a_scalar, an_object_type, an_interface, a_union, an_enum_type, an_input_type, IsLocation, a_location, IsRepeatable, once, repeatable}
use Rattle.gq_parse.specs.TypeSystem.{IsTypeSystemDefinition, a_schema_definition, a_type_definition, a_directive_definition, a_schema_extension, a_type_extension}
use Rattle.gq_laws.proofs.Rewriting.Past.{Past, at_once, one_on, over, as_past, past_punctuator, past_spelled, past_value, past_selection, before_operation_set, before_fragment_set}

-- What stands between two lists of tokens: it ends with a token that is no string; and: it does so, or is nothing.
pub record Firm (tokens rest : Tokens) : Type 0 where
  pub others : Tokens
  pub token : Lexeme
  pub is : tokens ≡ others ++ token ∷ rest
  pub no_string : token.kind ≡ kind.String → ⊥

pub data FirmOrNone : Tokens → Tokens → Type 0 where
  nothing : {tokens : Tokens} → FirmOrNone tokens tokens
  firm : {tokens rest : Tokens} → Firm tokens rest → FirmOrNone tokens rest

pub past_list : {tokens rest : Tokens} → Past tokens rest → (front : Tokens) × (tokens ≡ front ++ rest)
past_list at_once = ([], refl)
past_list (one_on {t = t} p) = let f = past_list p in (t ∷ f.0, ap (λ (l : Tokens). t ∷ l) f.1)

past_all : (front : Tokens) {tokens rest : Tokens} → tokens ≡ front ++ rest → Past tokens rest
past_all [] {tokens} {rest} e = subst (λ (l : Tokens). Past l rest) (sym e) at_once
past_all (t ∷ front) {tokens} {rest} e = subst (λ (l : Tokens). Past l rest) (sym e) (one_on (past_all front refl))

pub firm_past : {tokens rest : Tokens} → Firm tokens rest → Past tokens rest
firm_past {rest = rest} f = past_all (f.others ++ f.token ∷ []) (f.is ∙ sym (append_assoc f.others (f.token ∷ []) rest))

pub maybe_past : {tokens rest : Tokens} → FirmOrNone tokens rest → Past tokens rest
maybe_past nothing = at_once
maybe_past (firm f) = firm_past f

pub behind : {a b c : Tokens} → Past a b → Firm b c → Firm a c
behind {a} {b} {c} p f =
    let l = past_list p in
    record { others = l.0 ++ f.others; token = f.token; is = l.1 ∙ ap (λ (x : Tokens). l.0 ++ x) f.is ∙ sym (append_assoc l.0 f.others (f.token ∷ c)); no_string = f.no_string }

pub before : {a b c : Tokens} → Firm a b → FirmOrNone b c → Firm a c
before f nothing = f
before f (firm g) = behind (firm_past f) g

-- one token
firm_sign : {k : Kind} {tokens rest : Tokens} → (k ≡ kind.String → ⊥) → IsPunctuator k tokens rest → Firm tokens rest
firm_sign other p = record { others = []; token = p.token; is = p.first; no_string = λ e. other (sym p.kind ∙ e) }

pub firm_name : {text : List ℕ} {place : Span} {tokens rest : Tokens} → IsSpelled kind.Name text place tokens rest → Firm tokens rest
firm_name p = record { others = []; token = p.token; is = p.first; no_string = λ e. let f = sym p.kind ∙ e in cc }

-- rows
firm_many : {A : Type 0} {X : A → Tokens → Tokens → Type 0} {k : Kind} {xs : List A} {tokens rest : Tokens} → ((x : A) (ts r : Tokens) → X x ts r → Past ts r) → (k ≡ kind.String → ⊥) →
    ManyUntil X k xs tokens rest → Firm tokens rest
firm_many each other (many_closed p) = firm_sign other p
firm_many each other (another {x = x} {tokens = tokens} a h more) = behind (each x tokens a h) (firm_many each other more)

pub firm_enclosed : {A : Type 0} {X : A → Tokens → Tokens → Type 0} {j k : Kind} {xs : List A} {tokens rest : Tokens} → ((x : A) (ts r : Tokens) → X x ts r → Past ts r) → (k ≡ kind.String → ⊥) →
    OptionalMany X j k xs tokens rest → FirmOrNone tokens rest
firm_enclosed each other (absent free) = nothing
firm_enclosed each other (enclosed a p more) = firm (behind (as_past (past_punctuator p)) (firm_many each other more))

firm_separated : {A : Type 0} {X : A → Tokens → Tokens → Type 0} {k : Kind} {xs : List A} {tokens rest : Tokens} → ((x : A) (ts r : Tokens) → X x ts r → Firm ts r) → Separated X k xs tokens rest →
    Firm tokens rest
firm_separated each (last {x = x} {tokens = tokens} {rest = rest} h free) = each x tokens rest h
firm_separated each (next {x = x} {tokens = tokens} a b h p more) = behind (over (firm_past (each x tokens a h)) (as_past (past_punctuator p))) (firm_separated each more)

firm_delimited : {A : Type 0} {X : A → Tokens → Tokens → Type 0} {k : Kind} {xs : List A} {tokens rest : Tokens} → ((x : A) (ts r : Tokens) → X x ts r → Firm ts r) → Delimited X k xs tokens rest →
    Firm tokens rest
firm_delimited each (plain free h) = firm_separated each h
firm_delimited each (led a p h) = behind (as_past (past_punctuator p)) (firm_separated each h)

pub no_paren : kind.ParenClose ≡ kind.String → ⊥
no_paren e = cc

no_brace : kind.BraceClose ≡ kind.String → ⊥
no_brace e = cc

-- directives
pub argument_past : {constant : Bool} (v : Val Span) (tokens rest : Tokens) → IsArgument constant v tokens rest → Past tokens rest
argument_past v tokens rest (an_argument a b n p h) = over (as_past (past_spelled n)) (over (as_past (past_punctuator p)) (past_value h))

pub firm_directives : {constant : Bool} {ds : List (DirectiveOf Span)} {tokens rest : Tokens} → IsDirectives constant ds tokens rest → FirmOrNone tokens rest
firm_directives (no_directive free) = nothing
firm_directives (a_directive a b c p n vs ds) = firm (behind (as_past (past_punctuator p)) (before (before (firm_name n) (firm_enclosed argument_past no_paren vs)) (firm_directives ds)))

-- selections
firm_selections : {ss : Sels Span} {tokens rest : Tokens} → IsSelections ss tokens rest → Firm tokens rest
firm_selections (set_closed p) = firm_sign no_brace p
firm_selections (selection a h ss) = behind (as_past (past_selection h)) (firm_selections ss)

firm_set : {ss : Sels Span} {tokens rest : Tokens} → IsSelectionSet ss tokens rest → Firm tokens rest
firm_set (braces a p ss) = behind (as_past (past_punctuator p)) (firm_selections ss)

-- parts of the type system
mutual
  type_past : {t : TypeOf Span} {tokens rest : Tokens} → IsType t tokens rest → Past tokens rest
  type_past (nullable t free) = nullable_past t
  type_past (without_null a t p) = over (nullable_past t) (as_past (past_punctuator p))

  nullable_past : {t : TypeOf Span} {tokens rest : Tokens} → IsNullableType t tokens rest → Past tokens rest
  nullable_past (named_type n) = as_past (past_spelled n)
  nullable_past (list_type a b p t q) = over (as_past (past_punctuator p)) (over (type_past t) (as_past (past_punctuator q)))

default_past : {d : Option (Val Span)} {tokens rest : Tokens} → IsDefaultValue d tokens rest → Past tokens rest
default_past (no_default free) = at_once
default_past (a_default a p v) = over (as_past (past_punctuator p)) (past_value v)

description_past : {d : Option (NameOf Span)} {tokens rest : Tokens} → IsDescription d tokens rest → Past tokens rest
description_past (no_description free other) = at_once
description_past (a_description s) = as_past (past_spelled s)
description_past (a_block_description s) = as_past (past_spelled s)

operation_type_past : {type : OperationKind} {tokens rest : Tokens} → IsOperationType type tokens rest → Past tokens rest
operation_type_past (a_query s) = as_past (past_spelled s)
operation_type_past (a_mutation s) = as_past (past_spelled s)
operation_type_past (a_subscription s) = as_past (past_spelled s)

root_past : (r : RootOf Span) (tokens rest : Tokens) → IsRoot r tokens rest → Past tokens rest
root_past r tokens rest (a_root a b type p n) = over (operation_type_past type) (over (as_past (past_punctuator p)) (as_past (past_spelled n)))

input_past : (v : InputOf Span) (tokens rest : Tokens) → IsInputValue v tokens rest → Past tokens rest
input_past v tokens rest (an_input_value a b c d e about n p t o ds) =
    over (description_past about) (over (as_past (past_spelled n)) (over (as_past (past_punctuator p)) (over (type_past t) (over (default_past o) (maybe_past (firm_directives ds))))))

field_past : (f : FieldDefinitionOf Span) (tokens rest : Tokens) → IsFieldDefinition f tokens rest → Past tokens rest
field_past f tokens rest (a_field_definition a b c d e about n vs p t ds) =
    over (description_past about)
    (over (as_past (past_spelled n)) (over (maybe_past (firm_enclosed input_past no_paren vs)) (over (as_past (past_punctuator p)) (over (type_past t) (maybe_past (firm_directives ds))))))

enum_value_past : (v : EnumValueOf Span) (tokens rest : Tokens) → IsEnumValueDefinition v tokens rest → Past tokens rest
enum_value_past v tokens rest (an_enum_value a b about n other ds) = over (description_past about) (over (as_past (past_spelled n)) (maybe_past (firm_directives ds)))

firm_one_name : (n : NameOf Span) (tokens rest : Tokens) → IsName n tokens rest → Firm tokens rest
firm_one_name n tokens rest h = firm_name h

firm_location : (l : DirectiveLocation) (tokens rest : Tokens) → IsLocation l tokens rest → Firm tokens rest
firm_location l tokens rest (a_location h) = firm_name h

firm_implements : {ns : List (NameOf Span)} {tokens rest : Tokens} → IsImplements ns tokens rest → FirmOrNone tokens rest
firm_implements (no_interfaces free) = nothing
firm_implements (interfaces a word names) = firm (behind (as_past (past_spelled word)) (firm_delimited firm_one_name names))

firm_members : {ns : List (NameOf Span)} {tokens rest : Tokens} → IsMembers ns tokens rest → FirmOrNone tokens rest
firm_members (no_members free) = nothing
firm_members (members a p names) = firm (behind (as_past (past_punctuator p)) (firm_delimited firm_one_name names))

firm_schema : {ds : List (DirectiveOf Span)} {rs : List (RootOf Span)} {tokens rest : Tokens} → IsSchema ds rs tokens rest → Firm tokens rest
firm_schema (a_schema a b word ds roots) = before (before (firm_name word) (firm_directives ds)) (firm_enclosed root_past no_brace roots)

firm_body : {name : NameOf Span} {ds : List (DirectiveOf Span)} {body : BodyOf Span} {tokens rest : Tokens} → IsTypeBody name ds body tokens rest → Firm tokens rest
firm_body (a_scalar a b word n ds) = behind (as_past (past_spelled word)) (before (firm_name n) (firm_directives ds))
firm_body (an_object_type a b c d word n is ds fields) =
    behind (as_past (past_spelled word)) (before (before (before (firm_name n) (firm_implements is)) (firm_directives ds)) (firm_enclosed field_past no_brace fields))
firm_body (an_interface a b c d word n is ds fields) =
    behind (as_past (past_spelled word)) (before (before (before (firm_name n) (firm_implements is)) (firm_directives ds)) (firm_enclosed field_past no_brace fields))
firm_body (a_union a b c word n ds names) = behind (as_past (past_spelled word)) (before (before (firm_name n) (firm_directives ds)) (firm_members names))
firm_body (an_enum_type a b c word n ds values) = behind (as_past (past_spelled word)) (before (before (firm_name n) (firm_directives ds)) (firm_enclosed enum_value_past no_brace values))
firm_body (an_input_type a b c word n ds fields) = behind (as_past (past_spelled word)) (before (before (firm_name n) (firm_directives ds)) (firm_enclosed input_past no_brace fields))

repeatable_past : {b : Bool} {tokens rest : Tokens} → IsRepeatable b tokens rest → Past tokens rest
repeatable_past (once h) = as_past (past_spelled h)
repeatable_past (repeatable a h k) = over (as_past (past_spelled h)) (as_past (past_spelled k))

firm_type_system : {d : TypeSystemOf Span} {tokens rest : Tokens} → IsTypeSystemDefinition d tokens rest → Firm tokens rest
firm_type_system (a_schema_definition a about h some) = behind (description_past about) (firm_schema h)
firm_type_system (a_type_definition a about h) = behind (description_past about) (firm_body h)
firm_type_system (a_directive_definition a b c d e f about word p n vs again locations) =
    behind (over (description_past about) (over (as_past (past_spelled word)) (over (as_past (past_punctuator p)) (over (as_past (past_spelled n))
    (over (maybe_past (firm_enclosed input_past no_paren vs)) (repeatable_past again))))))
    (firm_delimited firm_location locations)
firm_type_system (a_schema_extension a word h some) = behind (as_past (past_spelled word)) (firm_schema h)
firm_type_system (a_type_extension a word h some) = behind (as_past (past_spelled word)) (firm_body h)

-- definitions
firm_operation : {d : Def Span} {tokens rest : Tokens} → IsOperationDefinition d tokens rest → Firm tokens rest
firm_operation (bare set) = firm_set set
firm_operation (typed a b c d type name vs ds set) = behind (before_operation_set type name vs ds) (firm_set set)

firm_fragment : {d : Def Span} {tokens rest : Tokens} → IsFragmentDefinition d tokens rest → Firm tokens rest
firm_fragment (fragment_on a b c d first word name on ds set) = behind (before_fragment_set word name on ds) (firm_set set)

pub firm_definition : {d : Def Span} {tokens rest : Tokens} → IsDefinition d tokens rest → Firm tokens rest
firm_definition (an_operation h) = firm_operation h
firm_definition (a_fragment h) = firm_fragment h
firm_definition (a_type_system_definition h) = firm_type_system h

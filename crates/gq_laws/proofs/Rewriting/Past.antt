-- A phrase of the grammar leaves behind it an end of the tokens that it begins.
use Rattle.std.proofs.Common.{◌≡◌, ℕ, Bool, false, List, ◌∷◌, Option, sym, subst}
use Rattle.gq_text.specs.declared.place.Span.{Span}
use Rattle.gq_lex.specs.declared.token.Kind.{Kind}
use Rattle.gq_lex.specs.declared.token.Kind.TheVariants as kind
use Rattle.gq_lex.specs.Tokens.{Lexeme}
use Rattle.gq_tree.specs.declared.tree.OperationKind.{OperationKind}
use Rattle.gq_tree.specs.declared.type_system.DirectiveLocation.{DirectiveLocation}
use Rattle.gq_tree.specs.Plain.{NameOf, Says, Val, Vals, DirectiveOf, TypeOf, VariableOf, Head, Sels, InputOf, FieldDefinitionOf, EnumValueOf, RootOf, BodyOf, TypeSystemOf}
use Rattle.gq_parse.specs.Grammar.{Tokens, IsPunctuator, IsSpelled, IsName, ManyUntil, closed, another, OptionalMany, absent, enclosed, IsFragmentName, IsTypeCondition, IsOptionalCondition, no_condition, a_condition, IsOptionalName, no_name, a_name, IsValue, a_variable, an_int, a_float, a_string, a_block_string, is_true, is_false, is_null, an_enum, a_list, an_object, IsValues, list_closed, an_item, IsObjectFields, object_closed, an_object_field, IsArgument, an_argument, IsDirectives, no_directive, a_directive, IsType, nullable, without_null, IsNullableType, named_type, list_type, IsDefaultValue, no_default, a_default, IsVariableDefinition, a_variable_definition, IsFieldName, no_alias, alias, IsSelection, a_field, a_spread, an_inline, IsOptionalSet, no_set, a_set, IsSelectionSet, braces, IsSelections, set_closed, selection, IsOperationType, a_query, a_mutation, a_subscription}
use Rattle.gq_parse.specs.TypeSystem.{IsDescription, no_description, a_description, a_block_description, Separated, last, next, Delimited, plain, led, IsRoot, a_root, IsSchema, a_schema, IsInputValue, an_input_value, IsFieldDefinition, a_field_definition, IsEnumValueDefinition, an_enum_value, IsImplements, no_interfaces, interfaces, IsMembers, no_members, members, IsTypeBody, a_scalar, an_object_type, an_interface, a_union, an_enum_type, an_input_type, IsLocation, a_location, IsRepeatable, once, repeatable, IsTypeSystemDefinition, a_schema_definition, a_type_definition, a_directive_definition, a_schema_extension, a_type_extension}

-- The second list is an end of the first, or all of it.
pub data Past : Tokens → Tokens → Type 0 where
  at_once : {tokens : Tokens} → Past tokens tokens
  one_on : {t : Lexeme} {tokens rest : Tokens} → Past tokens rest → Past (t ∷ tokens) rest

pub over : {a b c : Tokens} → Past a b → Past b c → Past a c
over at_once q = q
over (one_on p) q = one_on (over p q)

-- an end that is not all
pub data Passed : Tokens → Tokens → Type 0 where
  passed : {t : Lexeme} {tokens rest : Tokens} → Past tokens rest → Passed (t ∷ tokens) rest

pub as_past : {a b : Tokens} → Passed a b → Past a b
as_past (passed p) = one_on p

pub passed_over : {a b c : Tokens} → Passed a b → Past b c → Passed a c
passed_over (passed p) q = passed (over p q)

pub over_passed : {a b c : Tokens} → Past a b → Passed b c → Passed a c
over_passed at_once q = q
over_passed (one_on p) q = passed (over p (as_past q))

one_token : {t : Lexeme} {tokens rest : Tokens} → tokens ≡ t ∷ rest → Passed tokens rest
one_token {rest} e = subst (λ z. Passed z rest) (sym e) (passed at_once)

pub past_punctuator : {k : Kind} {tokens rest : Tokens} → IsPunctuator k tokens rest → Passed tokens rest
past_punctuator p = one_token p.first

pub past_spelled : {k : Kind} {text : List ℕ} {place : Span} {tokens rest : Tokens} → IsSpelled k text place tokens rest → Passed tokens rest
past_spelled p = one_token p.first

-- rows
past_closed : {A : Type 0} (X : A → Tokens → Tokens → Type 0) (k : Kind) → ((x : A) (tokens rest : Tokens) → X x tokens rest → Past tokens rest) → {xs : List A} {tokens rest : Tokens} → ManyUntil X k xs tokens rest → Past tokens rest
past_closed X k g (closed p) = as_past (past_punctuator p)
past_closed X k g (another a x c) = over (g _ _ _ x) (past_closed X k g c)

past_enclosed : {A : Type 0} (X : A → Tokens → Tokens → Type 0) (j k : Kind) → ((x : A) (tokens rest : Tokens) → X x tokens rest → Past tokens rest) → {xs : List A} {tokens rest : Tokens} → OptionalMany X j k xs tokens rest → Past tokens rest
past_enclosed X j k g (absent n) = at_once
past_enclosed X j k g (enclosed a p c) = over (as_past (past_punctuator p)) (past_closed X k g c)

past_separated : {A : Type 0} (X : A → Tokens → Tokens → Type 0) (k : Kind) → ((x : A) (tokens rest : Tokens) → X x tokens rest → Past tokens rest) → {xs : List A} {tokens rest : Tokens} → Separated X k xs tokens rest → Past tokens rest
past_separated X k g (last x n) = g _ _ _ x
past_separated X k g (next a b x p s) = over (g _ _ _ x) (over (as_past (past_punctuator p)) (past_separated X k g s))

past_led : {A : Type 0} (X : A → Tokens → Tokens → Type 0) (k : Kind) → ((x : A) (tokens rest : Tokens) → X x tokens rest → Past tokens rest) → {xs : List A} {tokens rest : Tokens} → Delimited X k xs tokens rest → Past tokens rest
past_led X k g (plain n s) = past_separated X k g s
past_led X k g (led a p s) = over (as_past (past_punctuator p)) (past_separated X k g s)

-- values
mutual
  pub past_value : {constant : Bool} {says : Says Span} {below : Vals Span} {tokens rest : Tokens} → IsValue constant says below tokens rest → Past tokens rest
  past_value (a_variable a c p n) = over (as_past (past_punctuator p)) (as_past (past_spelled n))
  past_value (an_int s) = as_past (past_spelled s)
  past_value (a_float s) = as_past (past_spelled s)
  past_value (a_string s) = as_past (past_spelled s)
  past_value (a_block_string s) = as_past (past_spelled s)
  past_value (is_true s) = as_past (past_spelled s)
  past_value (is_false s) = as_past (past_spelled s)
  past_value (is_null s) = as_past (past_spelled s)
  past_value (an_enum n w) = as_past (past_spelled n)
  past_value (a_list a p vs) = over (as_past (past_punctuator p)) (past_values vs)
  past_value (an_object a p fs) = over (as_past (past_punctuator p)) (past_object_fields fs)

  past_values : {constant : Bool} {vs : Vals Span} {tokens rest : Tokens} → IsValues constant vs tokens rest → Past tokens rest
  past_values (list_closed p) = as_past (past_punctuator p)
  past_values (an_item a v vs) = over (past_value v) (past_values vs)

  past_object_fields : {constant : Bool} {vs : Vals Span} {tokens rest : Tokens} → IsObjectFields constant vs tokens rest → Past tokens rest
  past_object_fields (object_closed p) = as_past (past_punctuator p)
  past_object_fields (an_object_field a b c n p v vs) = over (as_past (past_spelled n)) (over (as_past (past_punctuator p)) (over (past_value v) (past_object_fields vs)))

past_argument : {constant : Bool} (v : Val Span) (tokens rest : Tokens) → IsArgument constant v tokens rest → Past tokens rest
past_argument v tokens rest (an_argument a b n p x) = over (as_past (past_spelled n)) (over (as_past (past_punctuator p)) (past_value x))

pub past_directives : {constant : Bool} {ds : List (DirectiveOf Span)} {tokens rest : Tokens} → IsDirectives constant ds tokens rest → Past tokens rest
past_directives (no_directive n) = at_once
past_directives (a_directive a b c p n g ds) = over (as_past (past_punctuator p)) (over (as_past (past_spelled n)) (over (past_enclosed _ _ _ past_argument g) (past_directives ds)))

-- types
mutual
  past_type : {t : TypeOf Span} {tokens rest : Tokens} → IsType t tokens rest → Past tokens rest
  past_type (nullable t n) = past_nullable t
  past_type (without_null a t p) = over (past_nullable t) (as_past (past_punctuator p))

  past_nullable : {t : TypeOf Span} {tokens rest : Tokens} → IsNullableType t tokens rest → Past tokens rest
  past_nullable (named_type n) = as_past (past_spelled n)
  past_nullable (list_type a b p t q) = over (as_past (past_punctuator p)) (over (past_type t) (as_past (past_punctuator q)))

past_default : {d : Option (Val Span)} {tokens rest : Tokens} → IsDefaultValue d tokens rest → Past tokens rest
past_default (no_default n) = at_once
past_default (a_default a p v) = over (as_past (past_punctuator p)) (past_value v)

past_variable : (v : VariableOf Span) (tokens rest : Tokens) → IsVariableDefinition v tokens rest → Past tokens rest
past_variable v tokens rest (a_variable_definition a b c d e p n q t x ds) =
    over (as_past (past_punctuator p)) (over (as_past (past_spelled n)) (over (as_past (past_punctuator q)) (over (past_type t) (over (past_default x) (past_directives ds)))))

-- selections
past_field_name : {x : Option (NameOf Span)} {n : NameOf Span} {tokens rest : Tokens} → IsFieldName x n tokens rest → Passed tokens rest
past_field_name (no_alias n c) = past_spelled n
past_field_name (alias a b n p m) = passed_over (past_spelled n) (over (as_past (past_punctuator p)) (as_past (past_spelled m)))

pub past_condition : {on : NameOf Span} {tokens rest : Tokens} → IsTypeCondition on tokens rest → Past tokens rest
past_condition c = over (as_past (past_spelled c.begins)) (as_past (past_spelled c.names))

past_optional_condition : {on : Option (NameOf Span)} {tokens rest : Tokens} → IsOptionalCondition on tokens rest → Past tokens rest
past_optional_condition (no_condition n) = at_once
past_optional_condition (a_condition c) = past_condition c

mutual
  pub past_selection : {h : Head Span} {below : Sels Span} {tokens rest : Tokens} → IsSelection h below tokens rest → Passed tokens rest
  past_selection (a_field a b c n g ds s) = passed_over (past_field_name n) (over (past_enclosed _ _ _ past_argument g) (over (past_directives ds) (past_optional_set s)))
  past_selection (a_spread a b p n ds) = passed_over (past_punctuator p) (over (as_past (past_spelled n.is_name)) (past_directives ds))
  past_selection (an_inline a b c p t ds s) = passed_over (past_punctuator p) (over (past_optional_condition t) (over (past_directives ds) (as_past (past_set s))))

  past_optional_set : {b : Option Span} {ss : Sels Span} {tokens rest : Tokens} → IsOptionalSet b ss tokens rest → Past tokens rest
  past_optional_set (no_set n) = at_once
  past_optional_set (a_set s) = as_past (past_set s)

  pub past_set : {ss : Sels Span} {tokens rest : Tokens} → IsSelectionSet ss tokens rest → Passed tokens rest
  past_set (braces a p s) = passed_over (past_punctuator p) (as_past (past_selections s))

  pub past_selections : {ss : Sels Span} {tokens rest : Tokens} → IsSelections ss tokens rest → Passed tokens rest
  past_selections (set_closed p) = past_punctuator p
  past_selections (selection a x s) = passed_over (past_selection x) (as_past (past_selections s))

-- what stands before the braces of a field, of an inline fragment, of an operation, and of a fragment
pub before_field_set : {x : Option (NameOf Span)} {n : NameOf Span} {arguments : List (Val Span)} {directives : List (DirectiveOf Span)} {tokens a b c : Tokens} → IsFieldName x n tokens a → OptionalMany (IsArgument false) kind.ParenOpen kind.ParenClose arguments a b → IsDirectives false directives b c → Past tokens c
before_field_set n g ds = over (as_past (past_field_name n)) (over (past_enclosed _ _ _ past_argument g) (past_directives ds))

pub before_inline_set : {on : Option (NameOf Span)} {directives : List (DirectiveOf Span)} {tokens a b c : Tokens} → IsPunctuator kind.Spread tokens a → IsOptionalCondition on a b → IsDirectives false directives b c → Past tokens c
before_inline_set p t ds = over (as_past (past_punctuator p)) (over (past_optional_condition t) (past_directives ds))

past_operation_type : {k : OperationKind} {tokens rest : Tokens} → IsOperationType k tokens rest → Past tokens rest
past_operation_type (a_query s) = as_past (past_spelled s)
past_operation_type (a_mutation s) = as_past (past_spelled s)
past_operation_type (a_subscription s) = as_past (past_spelled s)

past_optional_name : {n : Option (NameOf Span)} {tokens rest : Tokens} → IsOptionalName n tokens rest → Past tokens rest
past_optional_name (no_name n) = at_once
past_optional_name (a_name n) = as_past (past_spelled n)

pub before_operation_set : {k : OperationKind} {n : Option (NameOf Span)} {variables : List (VariableOf Span)} {directives : List (DirectiveOf Span)} {tokens a b c d : Tokens} → IsOperationType k tokens a → IsOptionalName n a b → OptionalMany IsVariableDefinition kind.ParenOpen kind.ParenClose variables b c → IsDirectives false directives c d → Past tokens d
before_operation_set t n vs ds = over (past_operation_type t) (over (past_optional_name n) (over (past_enclosed _ _ _ past_variable vs) (past_directives ds)))

pub before_fragment_set : {word : List ℕ} {first : Span} {name on : NameOf Span} {directives : List (DirectiveOf Span)} {tokens a b c d : Tokens} → IsSpelled kind.Name word first tokens a → IsFragmentName name a b → IsTypeCondition on b c → IsDirectives false directives c d → Past tokens d
before_fragment_set w n c ds = over (as_past (past_spelled w)) (over (as_past (past_spelled n.is_name)) (over (past_condition c) (past_directives ds)))

-- the type system
past_description : {d : Option (NameOf Span)} {tokens rest : Tokens} → IsDescription d tokens rest → Past tokens rest
past_description (no_description a b) = at_once
past_description (a_description s) = as_past (past_spelled s)
past_description (a_block_description s) = as_past (past_spelled s)

past_root : (r : RootOf Span) (tokens rest : Tokens) → IsRoot r tokens rest → Past tokens rest
past_root r tokens rest (a_root a b t p n) = over (past_operation_type t) (over (as_past (past_punctuator p)) (as_past (past_spelled n)))

past_schema : {ds : List (DirectiveOf Span)} {roots : List (RootOf Span)} {tokens rest : Tokens} → IsSchema ds roots tokens rest → Passed tokens rest
past_schema (a_schema a b w ds rs) = passed_over (past_spelled w) (over (past_directives ds) (past_enclosed _ _ _ past_root rs))

past_input : (i : InputOf Span) (tokens rest : Tokens) → IsInputValue i tokens rest → Past tokens rest
past_input i tokens rest (an_input_value a b c d e x n p t v ds) = over (past_description x) (over (as_past (past_spelled n)) (over (as_past (past_punctuator p)) (over (past_type t) (over (past_default v) (past_directives ds)))))

past_field : (f : FieldDefinitionOf Span) (tokens rest : Tokens) → IsFieldDefinition f tokens rest → Past tokens rest
past_field f tokens rest (a_field_definition a b c d e x n g p t ds) = over (past_description x) (over (as_past (past_spelled n)) (over (past_enclosed _ _ _ past_input g) (over (as_past (past_punctuator p)) (over (past_type t) (past_directives ds)))))

past_enum_value : (v : EnumValueOf Span) (tokens rest : Tokens) → IsEnumValueDefinition v tokens rest → Past tokens rest
past_enum_value v tokens rest (an_enum_value a b x n w ds) = over (past_description x) (over (as_past (past_spelled n)) (past_directives ds))

past_name : (n : NameOf Span) (tokens rest : Tokens) → IsName n tokens rest → Past tokens rest
past_name n tokens rest s = as_past (past_spelled s)

past_implements : {is : List (NameOf Span)} {tokens rest : Tokens} → IsImplements is tokens rest → Past tokens rest
past_implements (no_interfaces n) = at_once
past_implements (interfaces a w l) = over (as_past (past_spelled w)) (past_led _ _ past_name l)

past_members : {is : List (NameOf Span)} {tokens rest : Tokens} → IsMembers is tokens rest → Past tokens rest
past_members (no_members n) = at_once
past_members (members a p l) = over (as_past (past_punctuator p)) (past_led _ _ past_name l)

past_body : {n : NameOf Span} {ds : List (DirectiveOf Span)} {b : BodyOf Span} {tokens rest : Tokens} → IsTypeBody n ds b tokens rest → Passed tokens rest
past_body (a_scalar a b w n ds) = passed_over (past_spelled w) (over (as_past (past_spelled n)) (past_directives ds))
past_body (an_object_type a b c d w n i ds fs) = passed_over (past_spelled w) (over (as_past (past_spelled n)) (over (past_implements i) (over (past_directives ds) (past_enclosed _ _ _ past_field fs))))
past_body (an_interface a b c d w n i ds fs) = passed_over (past_spelled w) (over (as_past (past_spelled n)) (over (past_implements i) (over (past_directives ds) (past_enclosed _ _ _ past_field fs))))
past_body (a_union a b c w n ds m) = passed_over (past_spelled w) (over (as_past (past_spelled n)) (over (past_directives ds) (past_members m)))
past_body (an_enum_type a b c w n ds vs) = passed_over (past_spelled w) (over (as_past (past_spelled n)) (over (past_directives ds) (past_enclosed _ _ _ past_enum_value vs)))
past_body (an_input_type a b c w n ds fs) = passed_over (past_spelled w) (over (as_past (past_spelled n)) (over (past_directives ds) (past_enclosed _ _ _ past_input fs)))

past_location : (l : DirectiveLocation) (tokens rest : Tokens) → IsLocation l tokens rest → Past tokens rest
past_location l tokens rest (a_location w) = as_past (past_spelled w)

past_repeatable : {b : Bool} {tokens rest : Tokens} → IsRepeatable b tokens rest → Past tokens rest
past_repeatable (once w) = as_past (past_spelled w)
past_repeatable (repeatable a w v) = over (as_past (past_spelled w)) (as_past (past_spelled v))

pub past_type_system : {d : TypeSystemOf Span} {tokens rest : Tokens} → IsTypeSystemDefinition d tokens rest → Passed tokens rest
past_type_system (a_schema_definition a x s n) = over_passed (past_description x) (past_schema s)
past_type_system (a_type_definition a x b) = over_passed (past_description x) (past_body b)
past_type_system (a_directive_definition a b c d e f x w p n g r l) =
    over_passed (past_description x) (passed_over (past_spelled w) (over (as_past (past_punctuator p)) (over (as_past (past_spelled n)) (over (past_enclosed _ _ _ past_input g) (over (past_repeatable r) (past_led _ _ past_location l))))))
past_type_system (a_schema_extension a w s o) = passed_over (past_spelled w) (as_past (past_schema s))
past_type_system (a_type_extension a w b o) = passed_over (past_spelled w) (as_past (past_body b))

-- one directive, and what stands before those of a spread
pub past_one_directive : {constant : Bool} {name : NameOf Span} {arguments : List (Val Span)} {tokens a b c : Tokens} → IsPunctuator kind.At tokens a → IsName name a b → OptionalMany (IsArgument constant) kind.ParenOpen kind.ParenClose arguments b c → Passed tokens c
past_one_directive p n g = passed_over (past_punctuator p) (over (as_past (past_spelled n)) (past_enclosed _ _ _ past_argument g))

pub before_directives : {name : NameOf Span} {tokens a b : Tokens} → IsPunctuator kind.Spread tokens a → IsFragmentName name a b → Past tokens b
before_directives p n = over (as_past (past_punctuator p)) (as_past (past_spelled n.is_name))

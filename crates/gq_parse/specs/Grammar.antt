-- The grammar of documents (GraphQL, October 2021, section 2), one case for each production. A phrase stands between two
-- lists of tokens: the first begins with it, and the second is what is left behind it. Where a part is optional it is
-- there exactly where it can begin.
use Rattle.std.specs.Prelude.{◌≡◌, ◌≢◌, ℕ, ◌-◌, Bool, true, false, List, [], ◌∷◌, Option, Some, None, codes, length, take, ◌⊎◌}
use Rattle.gq_text.specs.declared.place.Span.{Span}
use Rattle.gq_lex.specs.declared.token.Kind.{Kind}
use Rattle.gq_lex.specs.declared.token.Kind.TheVariants as kind
use Rattle.gq_lex.specs.Tokens.{Lexeme}
use Rattle.gq_tree.specs.declared.tree.OperationKind.{OperationKind}
use Rattle.gq_tree.specs.declared.tree.OperationKind.TheVariants.{Query, Mutation, Subscription}
use Rattle.gq_tree.specs.Forest.{none, more}
use Rattle.gq_tree.specs.Plain.{NameOf, Says, Val, Vals, variable, int, float, string, boolean, null, enum, list, object, unnamed, under, DirectiveOf, TypeOf, named, list_of, non_null, VariableOf, Head, Sels, Def, field, spread, inline, operation, fragment}

abbrev pub Tokens : Type 0
Tokens = List Lexeme

-- a Punctuator of this kind (section 2.1.8)
pub record IsPunctuator (k : Kind) (tokens rest : Tokens) : Type 0 where
  pub token : Lexeme
  pub first : tokens ≡ token ∷ rest
  pub kind : token.kind ≡ k

-- a token of this kind, with its spelling and its place
pub record IsSpelled (k : Kind) (text : List ℕ) (place : Span) (tokens rest : Tokens) : Type 0 where
  pub token : Lexeme
  pub first : tokens ≡ token ∷ rest
  pub kind : token.kind ≡ k
  pub spelling : text ≡ token.text
  pub span : place ≡ token.span

-- Name (section 2.1.9)
abbrev pub IsName : NameOf Span → Tokens → Tokens → Type 0
IsName name tokens rest = IsSpelled kind.Name name.text name.place tokens rest

-- a Name that is this word
abbrev pub IsKeyword : List ℕ → Span → Tokens → Tokens → Type 0
IsKeyword word place tokens rest = IsSpelled kind.Name word place tokens rest

-- the next token, if there is one, is of another kind
abbrev pub NotNext : Kind → Tokens → Type 0
NotNext k [] = Unit {0}
NotNext k (t ∷ ts) = t.kind ≢ k

-- the place of the tokens before a rest: from the start of the first one to the end of the last one
abbrev pub starts : Tokens → ℕ
starts [] = 0
starts (t ∷ ts) = t.span.start

abbrev pub ends : Tokens → ℕ
ends [] = 0
ends (t ∷ []) = t.span.end
ends (t ∷ u ∷ ts) = ends (u ∷ ts)

abbrev pub covered : Tokens → Tokens → Span
covered tokens rest = record { start = starts tokens; end = ends (take (length tokens - length rest) tokens) }

-- X* and the punctuator that closes them
pub data ManyUntil {A : Type 0} (X : A → Tokens → Tokens → Type 0) (k : Kind) : List A → Tokens → Tokens → Type 0 where
  closed : {tokens rest : Tokens} → IsPunctuator k tokens rest → ManyUntil X k [] tokens rest
  another : {x : A} {xs : List A} {tokens rest : Tokens} (a : Tokens) → X x tokens a → ManyUntil X k xs a rest → ManyUntil X k (x ∷ xs) tokens rest

-- (opening X+ closing)?
pub data OptionalMany {A : Type 0} (X : A → Tokens → Tokens → Type 0) (k j : Kind) : List A → Tokens → Tokens → Type 0 where
  absent : {tokens : Tokens} → NotNext k tokens → OptionalMany X k j [] tokens tokens
  enclosed : {x : A} {xs : List A} {tokens rest : Tokens} (a : Tokens) → IsPunctuator k tokens a → ManyUntil X j (x ∷ xs) a rest → OptionalMany X k j (x ∷ xs) tokens rest

-- FragmentName : Name but not `on` (section 2.8)
pub record IsFragmentName (name : NameOf Span) (tokens rest : Tokens) : Type 0 where
  pub is_name : IsName name tokens rest
  pub not_on : name.text ≢ codes "on"

-- TypeCondition : on NamedType (section 2.8.1)
pub record IsTypeCondition (on : NameOf Span) (tokens rest : Tokens) : Type 0 where
  pub keyword : Span
  pub behind : Tokens
  pub begins : IsKeyword (codes "on") keyword tokens behind
  pub names : IsName on behind rest

-- TypeCondition?; what may follow it is no Name
pub data IsOptionalCondition : Option (NameOf Span) → Tokens → Tokens → Type 0 where
  no_condition : {tokens : Tokens} → NotNext kind.Name tokens → IsOptionalCondition None tokens tokens
  a_condition : {on : NameOf Span} {tokens rest : Tokens} → IsTypeCondition on tokens rest → IsOptionalCondition (Some on) tokens rest

-- Name?
pub data IsOptionalName : Option (NameOf Span) → Tokens → Tokens → Type 0 where
  no_name : {tokens : Tokens} → NotNext kind.Name tokens → IsOptionalName None tokens tokens
  a_name : {name : NameOf Span} {tokens rest : Tokens} → IsName name tokens rest → IsOptionalName (Some name) tokens rest

-- the words that are values of their own
abbrev pub IsValueWord : List ℕ → Type 0
IsValueWord word = (word ≡ codes "true") ⊎ (word ≡ codes "false") ⊎ (word ≡ codes "null")

mutual
  -- Value (section 2.9): what it says, and the values in it. A constant one holds no variable.
  pub data IsValue (constant : Bool) : Says Span → Vals Span → Tokens → Tokens → Type 0 where
    -- Variable : $ Name (section 2.10)
    a_variable : {name : NameOf Span} {tokens rest : Tokens} (a : Tokens) → constant ≡ false → IsPunctuator kind.Dollar tokens a → IsName name a rest → IsValue constant (variable name (covered tokens rest)) none tokens rest
    -- IntValue, FloatValue, StringValue (sections 2.9.1, 2.9.2, 2.9.4)
    an_int : {text : List ℕ} {place : Span} {tokens rest : Tokens} → IsSpelled kind.Int text place tokens rest → IsValue constant (int text place) none tokens rest
    a_float : {text : List ℕ} {place : Span} {tokens rest : Tokens} → IsSpelled kind.Float text place tokens rest → IsValue constant (float text place) none tokens rest
    a_string : {text : List ℕ} {place : Span} {tokens rest : Tokens} → IsSpelled kind.String text place tokens rest → IsValue constant (string text place) none tokens rest
    a_block_string : {text : List ℕ} {place : Span} {tokens rest : Tokens} → IsSpelled kind.BlockString text place tokens rest → IsValue constant (string text place) none tokens rest
    -- BooleanValue : true | false (section 2.9.3)
    is_true : {place : Span} {tokens rest : Tokens} → IsKeyword (codes "true") place tokens rest → IsValue constant (boolean true place) none tokens rest
    is_false : {place : Span} {tokens rest : Tokens} → IsKeyword (codes "false") place tokens rest → IsValue constant (boolean false place) none tokens rest
    -- NullValue : null (section 2.9.5)
    is_null : {place : Span} {tokens rest : Tokens} → IsKeyword (codes "null") place tokens rest → IsValue constant (null place) none tokens rest
    -- EnumValue : Name but not true, false, null (section 2.9.6)
    an_enum : {name : NameOf Span} {tokens rest : Tokens} → IsName name tokens rest → (IsValueWord name.text → ⊥) → IsValue constant (enum name) none tokens rest
    -- ListValue : [ Value* ] (section 2.9.7)
    a_list : {vs : Vals Span} {tokens rest : Tokens} (a : Tokens) → IsPunctuator kind.BracketOpen tokens a → IsValues constant vs a rest → IsValue constant (list (covered tokens rest)) vs tokens rest
    -- ObjectValue : { ObjectField* } (section 2.9.8)
    an_object : {vs : Vals Span} {tokens rest : Tokens} (a : Tokens) → IsPunctuator kind.BraceOpen tokens a → IsObjectFields constant vs a rest → IsValue constant (object (covered tokens rest)) vs tokens rest

  -- Value* ]
  pub data IsValues (constant : Bool) : Vals Span → Tokens → Tokens → Type 0 where
    list_closed : {tokens rest : Tokens} → IsPunctuator kind.BracketClose tokens rest → IsValues constant none tokens rest
    an_item : {says : Says Span} {below vs : Vals Span} {tokens rest : Tokens} (a : Tokens) → IsValue constant says below tokens a → IsValues constant vs a rest → IsValues constant (more (record { key = None; says = says }) below vs) tokens rest

  -- ObjectField* }; ObjectField : Name `:` Value
  pub data IsObjectFields (constant : Bool) : Vals Span → Tokens → Tokens → Type 0 where
    object_closed : {tokens rest : Tokens} → IsPunctuator kind.BraceClose tokens rest → IsObjectFields constant none tokens rest
    an_object_field : {name : NameOf Span} {says : Says Span} {below vs : Vals Span} {tokens rest : Tokens} (a b c : Tokens) → IsName name tokens a → IsPunctuator kind.Colon a b → IsValue constant says below b c → IsObjectFields constant vs c rest → IsObjectFields constant (more (record { key = Some name; says = says }) below vs) tokens rest

-- Argument : Name `:` Value (section 2.6)
pub data IsArgument (constant : Bool) : Val Span → Tokens → Tokens → Type 0 where
  an_argument : {name : NameOf Span} {says : Says Span} {below : Vals Span} {tokens rest : Tokens} (a b : Tokens) → IsName name tokens a → IsPunctuator kind.Colon a b → IsValue constant says below b rest → IsArgument constant (under name (unnamed says below)) tokens rest

-- Arguments? ; Arguments : ( Argument+ ) (section 2.6)
abbrev pub IsArguments : Bool → List (Val Span) → Tokens → Tokens → Type 0
IsArguments constant = OptionalMany (IsArgument constant) kind.ParenOpen kind.ParenClose

-- Directives? ; Directives : Directive+ ; Directive : @ Name Arguments? (section 2.12)
pub data IsDirectives (constant : Bool) : List (DirectiveOf Span) → Tokens → Tokens → Type 0 where
  no_directive : {tokens : Tokens} → NotNext kind.At tokens → IsDirectives constant [] tokens tokens
  a_directive : {name : NameOf Span} {arguments : List (Val Span)} {ds : List (DirectiveOf Span)} {tokens rest : Tokens} (a b c : Tokens) → IsPunctuator kind.At tokens a → IsName name a b → IsArguments constant arguments b c → IsDirectives constant ds c rest → IsDirectives constant (record { name = name; arguments = arguments; place = covered tokens c } ∷ ds) tokens rest

-- Type (section 2.11)
mutual
  -- Type : NamedType | ListType | NonNullType ; NonNullType : NamedType `!` | ListType `!`
  pub data IsType : TypeOf Span → Tokens → Tokens → Type 0 where
    nullable : {t : TypeOf Span} {tokens rest : Tokens} → IsNullableType t tokens rest → NotNext kind.Bang rest → IsType t tokens rest
    without_null : {t : TypeOf Span} {tokens rest : Tokens} (a : Tokens) → IsNullableType t tokens a → IsPunctuator kind.Bang a rest → IsType (non_null t) tokens rest

  pub data IsNullableType : TypeOf Span → Tokens → Tokens → Type 0 where
    -- NamedType : Name
    named_type : {name : NameOf Span} {tokens rest : Tokens} → IsName name tokens rest → IsNullableType (named name) tokens rest
    -- ListType : [ Type ]
    list_type : {t : TypeOf Span} {tokens rest : Tokens} (a b : Tokens) → IsPunctuator kind.BracketOpen tokens a → IsType t a b → IsPunctuator kind.BracketClose b rest → IsNullableType (list_of t) tokens rest

-- DefaultValue? ; DefaultValue : = Value (section 2.10)
pub data IsDefaultValue : Option (Val Span) → Tokens → Tokens → Type 0 where
  no_default : {tokens : Tokens} → NotNext kind.Equals tokens → IsDefaultValue None tokens tokens
  a_default : {says : Says Span} {below : Vals Span} {tokens rest : Tokens} (a : Tokens) → IsPunctuator kind.Equals tokens a → IsValue true says below a rest → IsDefaultValue (Some (unnamed says below)) tokens rest

-- VariableDefinition : Variable `:` Type DefaultValue? Directives? (section 2.10)
pub data IsVariableDefinition : VariableOf Span → Tokens → Tokens → Type 0 where
  a_variable_definition : {name : NameOf Span} {t : TypeOf Span} {default : Option (Val Span)} {directives : List (DirectiveOf Span)} {tokens rest : Tokens} (a b c d e : Tokens) → IsPunctuator kind.Dollar tokens a → IsName name a b → IsPunctuator kind.Colon b c → IsType t c d → IsDefaultValue default d e → IsDirectives true directives e rest → IsVariableDefinition (record { name = name; place = covered tokens b; type_ref = t; default = default; directives = directives }) tokens rest

-- VariableDefinitions? ; VariableDefinitions : ( VariableDefinition+ ) (section 2.10)
abbrev pub IsVariableDefinitions : List (VariableOf Span) → Tokens → Tokens → Type 0
IsVariableDefinitions = OptionalMany IsVariableDefinition kind.ParenOpen kind.ParenClose

-- Alias? Name, of a Field; Alias : Name `:` (section 2.7)
pub data IsFieldName : Option (NameOf Span) → NameOf Span → Tokens → Tokens → Type 0 where
  no_alias : {name : NameOf Span} {tokens rest : Tokens} → IsName name tokens rest → NotNext kind.Colon rest → IsFieldName None name tokens rest
  alias : {first name : NameOf Span} {tokens rest : Tokens} (a b : Tokens) → IsName first tokens a → IsPunctuator kind.Colon a b → IsName name b rest → IsFieldName (Some first) name tokens rest

mutual
  -- Selection (section 2.4): what it says, and the selections in its braces
  pub data IsSelection : Head Span → Sels Span → Tokens → Tokens → Type 0 where
    -- Field : Alias? Name Arguments? Directives? SelectionSet? (section 2.5)
    a_field : {alias : Option (NameOf Span)} {name : NameOf Span} {arguments : List (Val Span)} {directives : List (DirectiveOf Span)} {braces : Option Span} {ss : Sels Span} {tokens rest : Tokens} (a b c : Tokens) → IsFieldName alias name tokens a → IsArguments false arguments a b → IsDirectives false directives b c → IsOptionalSet braces ss c rest → IsSelection (field alias name arguments directives braces (covered tokens rest)) ss tokens rest
    -- FragmentSpread : ... FragmentName Directives? (section 2.8)
    a_spread : {name : NameOf Span} {directives : List (DirectiveOf Span)} {tokens rest : Tokens} (a b : Tokens) → IsPunctuator kind.Spread tokens a → IsFragmentName name a b → IsDirectives false directives b rest → IsSelection (spread name directives (covered tokens rest)) none tokens rest
    -- InlineFragment : ... TypeCondition? Directives? SelectionSet (section 2.8.2)
    an_inline : {on : Option (NameOf Span)} {directives : List (DirectiveOf Span)} {ss : Sels Span} {tokens rest : Tokens} (a b c : Tokens) → IsPunctuator kind.Spread tokens a → IsOptionalCondition on a b → IsDirectives false directives b c → IsSelectionSet ss c rest → IsSelection (inline on directives (covered c rest) (covered tokens rest)) ss tokens rest

  -- SelectionSet?
  pub data IsOptionalSet : Option Span → Sels Span → Tokens → Tokens → Type 0 where
    no_set : {tokens : Tokens} → NotNext kind.BraceOpen tokens → IsOptionalSet None none tokens tokens
    a_set : {ss : Sels Span} {tokens rest : Tokens} → IsSelectionSet ss tokens rest → IsOptionalSet (Some (covered tokens rest)) ss tokens rest

  -- SelectionSet : { Selection+ } (section 2.4)
  pub data IsSelectionSet : Sels Span → Tokens → Tokens → Type 0 where
    braces : {h : Head Span} {below ss : Sels Span} {tokens rest : Tokens} (a : Tokens) → IsPunctuator kind.BraceOpen tokens a → IsSelections (more h below ss) a rest → IsSelectionSet (more h below ss) tokens rest

  -- Selection* }
  pub data IsSelections : Sels Span → Tokens → Tokens → Type 0 where
    set_closed : {tokens rest : Tokens} → IsPunctuator kind.BraceClose tokens rest → IsSelections none tokens rest
    selection : {h : Head Span} {below ss : Sels Span} {tokens rest : Tokens} (a : Tokens) → IsSelection h below tokens a → IsSelections ss a rest → IsSelections (more h below ss) tokens rest

-- OperationType : one of query, mutation, subscription (section 2.3)
pub data IsOperationType : OperationKind → Tokens → Tokens → Type 0 where
  a_query : {place : Span} {tokens rest : Tokens} → IsKeyword (codes "query") place tokens rest → IsOperationType Query tokens rest
  a_mutation : {place : Span} {tokens rest : Tokens} → IsKeyword (codes "mutation") place tokens rest → IsOperationType Mutation tokens rest
  a_subscription : {place : Span} {tokens rest : Tokens} → IsKeyword (codes "subscription") place tokens rest → IsOperationType Subscription tokens rest

-- OperationDefinition (section 2.3)
pub data IsOperationDefinition : Def Span → Tokens → Tokens → Type 0 where
  -- SelectionSet
  bare : {ss : Sels Span} {tokens rest : Tokens} → IsSelectionSet ss tokens rest → IsOperationDefinition (operation Query None [] [] ss (covered tokens rest) (covered tokens rest)) tokens rest
  -- OperationType Name? VariableDefinitions? Directives? SelectionSet
  typed : {type : OperationKind} {name : Option (NameOf Span)} {variables : List (VariableOf Span)} {directives : List (DirectiveOf Span)} {ss : Sels Span} {tokens rest : Tokens} (a b c d : Tokens) → IsOperationType type tokens a → IsOptionalName name a b → IsVariableDefinitions variables b c → IsDirectives false directives c d → IsSelectionSet ss d rest → IsOperationDefinition (operation type name variables directives ss (covered d rest) (covered tokens rest)) tokens rest

-- FragmentDefinition : fragment FragmentName TypeCondition Directives? SelectionSet (section 2.8)
pub data IsFragmentDefinition : Def Span → Tokens → Tokens → Type 0 where
  fragment_on : {name on : NameOf Span} {directives : List (DirectiveOf Span)} {ss : Sels Span} {tokens rest : Tokens} (a b c d : Tokens) (first : Span) → IsKeyword (codes "fragment") first tokens a → IsFragmentName name a b → IsTypeCondition on b c → IsDirectives false directives c d → IsSelectionSet ss d rest → IsFragmentDefinition (fragment name on directives ss (covered d rest) (covered tokens rest)) tokens rest

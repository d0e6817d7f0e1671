-- The grammar of type system definitions and extensions (GraphQL, October 2021, section 3), one case for each production,
-- in the form of the grammar of executable definitions. Where a definition can go on with a brace it does so.
use Rattle.std.specs.Prelude.{◌≡◌, ◌≢◌, ℕ, Bool, true, false, List, [], ◌∷◌, Option, Some, None, codes, ◌⊎◌}
use Rattle.gq_text.specs.declared.place.Span.{Span}
use Rattle.gq_lex.specs.declared.token.Kind.{Kind}
use Rattle.gq_lex.specs.declared.token.Kind.TheVariants as kind
use Rattle.gq_tree.specs.declared.tree.OperationKind.{OperationKind}
use Rattle.gq_tree.specs.declared.type_system.DirectiveLocation.{DirectiveLocation}
use Rattle.gq_tree.specs.declared.type_system.DirectiveLocation.TheVariants as location
use Rattle.gq_tree.specs.Plain.{NameOf, Val, DirectiveOf, TypeOf, InputOf, FieldDefinitionOf, EnumValueOf, RootOf, BodyOf, scalar_type, object_type, interface_type, union_type, enum_type, input_type, TypeSystemOf, schema, type_definition, directive_definition}
use Rattle.gq_parse.specs.Grammar.{Tokens, IsPunctuator, IsSpelled, IsName, IsKeyword, NotNext, covered, OptionalMany, IsValueWord, IsDirectives, IsType, IsDefaultValue, IsOperationType}

-- the next token, if there is one, is not this word
abbrev pub NotWord : List ℕ → Tokens → Type 0
NotWord word [] = Unit {0}
NotWord word (t ∷ ts) = t.kind ≡ kind.Name → t.text ≢ word

-- Description? ; Description : StringValue (section 3.2), by its spelling
pub data IsDescription : Option (NameOf Span) → Tokens → Tokens → Type 0 where
  no_description : {tokens : Tokens} → NotNext kind.String tokens → NotNext kind.BlockString tokens → IsDescription None tokens tokens
  a_description : {text : List ℕ} {place : Span} {tokens rest : Tokens} → IsSpelled kind.String text place tokens rest → IsDescription (Some (record { text = text; place = place })) tokens rest
  a_block_description : {text : List ℕ} {place : Span} {tokens rest : Tokens} → IsSpelled kind.BlockString text place tokens rest → IsDescription (Some (record { text = text; place = place })) tokens rest

-- X, then a punctuator and X any number of times
pub data Separated {A : Type 0} (X : A → Tokens → Tokens → Type 0) (k : Kind) : List A → Tokens → Tokens → Type 0 where
  last : {x : A} {tokens rest : Tokens} → X x tokens rest → NotNext k rest → Separated X k (x ∷ []) tokens rest
  next : {x : A} {xs : List A} {tokens rest : Tokens} (a b : Tokens) → X x tokens a → IsPunctuator k a b → Separated X k xs b rest → Separated X k (x ∷ xs) tokens rest

-- the same, with the punctuator before the first one too where it stands there
pub data Delimited {A : Type 0} (X : A → Tokens → Tokens → Type 0) (k : Kind) : List A → Tokens → Tokens → Type 0 where
  plain : {xs : List A} {tokens rest : Tokens} → NotNext k tokens → Separated X k xs tokens rest → Delimited X k xs tokens rest
  led : {xs : List A} {tokens rest : Tokens} (a : Tokens) → IsPunctuator k tokens a → Separated X k xs a rest → Delimited X k xs tokens rest

-- RootOperationTypeDefinition : OperationType `:` NamedType (section 3.3)
pub data IsRoot : RootOf Span → Tokens → Tokens → Type 0 where
  a_root : {type : OperationKind} {name : NameOf Span} {tokens rest : Tokens} (a b : Tokens) → IsOperationType type tokens a → IsPunctuator kind.Colon a b → IsName name b rest → IsRoot (record { kind = type; name = name }) tokens rest

-- schema Directives? { RootOperationTypeDefinition+ }, of which the braces may be left out by an extension
pub data IsSchema : List (DirectiveOf Span) → List (RootOf Span) → Tokens → Tokens → Type 0 where
  a_schema : {directives : List (DirectiveOf Span)} {roots : List (RootOf Span)} {place : Span} {tokens rest : Tokens} (a b : Tokens) → IsKeyword (codes "schema") place tokens a → IsDirectives true directives a b → OptionalMany IsRoot kind.BraceOpen kind.BraceClose roots b rest → IsSchema directives roots tokens rest

-- InputValueDefinition : Description? Name `:` Type DefaultValue? Directives? (sections 3.6.1 and 3.10)
pub data IsInputValue : InputOf Span → Tokens → Tokens → Type 0 where
  an_input_value : {description : Option (NameOf Span)} {name : NameOf Span} {t : TypeOf Span} {default : Option (Val Span)} {directives : List (DirectiveOf Span)} {tokens rest : Tokens} (a b c d e : Tokens) → IsDescription description tokens a → IsName name a b → IsPunctuator kind.Colon b c → IsType t c d → IsDefaultValue default d e → IsDirectives true directives e rest → IsInputValue (record { description = description; name = name; type_ref = t; default = default; directives = directives }) tokens rest

-- ArgumentsDefinition? ; ArgumentsDefinition : ( InputValueDefinition+ ) (section 3.6.1)
abbrev pub IsArgumentsDefinition : List (InputOf Span) → Tokens → Tokens → Type 0
IsArgumentsDefinition = OptionalMany IsInputValue kind.ParenOpen kind.ParenClose

-- FieldDefinition : Description? Name ArgumentsDefinition? `:` Type Directives? (section 3.6)
pub data IsFieldDefinition : FieldDefinitionOf Span → Tokens → Tokens → Type 0 where
  a_field_definition : {description : Option (NameOf Span)} {name : NameOf Span} {arguments : List (InputOf Span)} {t : TypeOf Span} {directives : List (DirectiveOf Span)} {tokens rest : Tokens} (a b c d e : Tokens) → IsDescription description tokens a → IsName name a b → IsArgumentsDefinition arguments b c → IsPunctuator kind.Colon c d → IsType t d e → IsDirectives true directives e rest → IsFieldDefinition (record { description = description; name = name; arguments = arguments; type_ref = t; directives = directives }) tokens rest

-- FieldsDefinition? ; FieldsDefinition : { FieldDefinition+ } (section 3.6)
abbrev pub IsFieldsDefinition : List (FieldDefinitionOf Span) → Tokens → Tokens → Type 0
IsFieldsDefinition = OptionalMany IsFieldDefinition kind.BraceOpen kind.BraceClose

-- EnumValueDefinition : Description? EnumValue Directives? ; EnumValue : Name but not true, false, null (section 3.9)
pub data IsEnumValueDefinition : EnumValueOf Span → Tokens → Tokens → Type 0 where
  an_enum_value : {description : Option (NameOf Span)} {name : NameOf Span} {directives : List (DirectiveOf Span)} {tokens rest : Tokens} (a b : Tokens) → IsDescription description tokens a → IsName name a b → (IsValueWord name.text → ⊥) → IsDirectives true directives b rest → IsEnumValueDefinition (record { description = description; name = name; directives = directives }) tokens rest

-- ImplementsInterfaces? ; ImplementsInterfaces : implements `&`? NamedType, then `&` NamedType any number of times
-- (section 3.6)
pub data IsImplements : List (NameOf Span) → Tokens → Tokens → Type 0 where
  no_interfaces : {tokens : Tokens} → NotWord (codes "implements") tokens → IsImplements [] tokens tokens
  interfaces : {names : List (NameOf Span)} {place : Span} {tokens rest : Tokens} (a : Tokens) → IsKeyword (codes "implements") place tokens a → Delimited IsName kind.Ampersand names a rest → IsImplements names tokens rest

-- UnionMemberTypes? ; UnionMemberTypes : = `|`? NamedType, then `|` NamedType any number of times (section 3.8)
pub data IsMembers : List (NameOf Span) → Tokens → Tokens → Type 0 where
  no_members : {tokens : Tokens} → NotNext kind.Equals tokens → IsMembers [] tokens tokens
  members : {names : List (NameOf Span)} {tokens rest : Tokens} (a : Tokens) → IsPunctuator kind.Equals tokens a → Delimited IsName kind.Pipe names a rest → IsMembers names tokens rest

-- a type from its keyword on: its name, its directives, and its parts
pub data IsTypeBody : NameOf Span → List (DirectiveOf Span) → BodyOf Span → Tokens → Tokens → Type 0 where
  -- scalar Name Directives? (section 3.5)
  a_scalar : {name : NameOf Span} {directives : List (DirectiveOf Span)} {place : Span} {tokens rest : Tokens} (a b : Tokens) → IsKeyword (codes "scalar") place tokens a → IsName name a b → IsDirectives true directives b rest → IsTypeBody name directives scalar_type tokens rest
  -- type Name ImplementsInterfaces? Directives? FieldsDefinition? (section 3.6)
  an_object_type : {name : NameOf Span} {is : List (NameOf Span)} {directives : List (DirectiveOf Span)} {fields : List (FieldDefinitionOf Span)} {place : Span} {tokens rest : Tokens} (a b c d : Tokens) → IsKeyword (codes "type") place tokens a → IsName name a b → IsImplements is b c → IsDirectives true directives c d → IsFieldsDefinition fields d rest → IsTypeBody name directives (object_type is fields) tokens rest
  -- interface Name ImplementsInterfaces? Directives? FieldsDefinition? (section 3.7)
  an_interface : {name : NameOf Span} {is : List (NameOf Span)} {directives : List (DirectiveOf Span)} {fields : List (FieldDefinitionOf Span)} {place : Span} {tokens rest : Tokens} (a b c d : Tokens) → IsKeyword (codes "interface") place tokens a → IsName name a b → IsImplements is b c → IsDirectives true directives c d → IsFieldsDefinition fields d rest → IsTypeBody name directives (interface_type is fields) tokens rest
  -- union Name Directives? UnionMemberTypes? (section 3.8)
  a_union : {name : NameOf Span} {names : List (NameOf Span)} {directives : List (DirectiveOf Span)} {place : Span} {tokens rest : Tokens} (a b c : Tokens) → IsKeyword (codes "union") place tokens a → IsName name a b → IsDirectives true directives b c → IsMembers names c rest → IsTypeBody name directives (union_type names) tokens rest
  -- enum Name Directives? { EnumValueDefinition+ }? (section 3.9)
  an_enum_type : {name : NameOf Span} {values : List (EnumValueOf Span)} {directives : List (DirectiveOf Span)} {place : Span} {tokens rest : Tokens} (a b c : Tokens) → IsKeyword (codes "enum") place tokens a → IsName name a b → IsDirectives true directives b c → OptionalMany IsEnumValueDefinition kind.BraceOpen kind.BraceClose values c rest → IsTypeBody name directives (enum_type values) tokens rest
  -- input Name Directives? { InputValueDefinition+ }? (section 3.10)
  an_input_type : {name : NameOf Span} {fields : List (InputOf Span)} {directives : List (DirectiveOf Span)} {place : Span} {tokens rest : Tokens} (a b c : Tokens) → IsKeyword (codes "input") place tokens a → IsName name a b → IsDirectives true directives b c → OptionalMany IsInputValue kind.BraceOpen kind.BraceClose fields c rest → IsTypeBody name directives (input_type fields) tokens rest

-- the word of a DirectiveLocation (section 3.13)
abbrev pub location_word : DirectiveLocation → List ℕ
location_word location.Query = codes "QUERY"
location_word location.Mutation = codes "MUTATION"
location_word location.Subscription = codes "SUBSCRIPTION"
location_word location.Field = codes "FIELD"
location_word location.FragmentDefinition = codes "FRAGMENT_DEFINITION"
location_word location.FragmentSpread = codes "FRAGMENT_SPREAD"
location_word location.InlineFragment = codes "INLINE_FRAGMENT"
location_word location.VariableDefinition = codes "VARIABLE_DEFINITION"
location_word location.Schema = codes "SCHEMA"
location_word location.Scalar = codes "SCALAR"
location_word location.Object = codes "OBJECT"
location_word location.FieldDefinition = codes "FIELD_DEFINITION"
location_word location.ArgumentDefinition = codes "ARGUMENT_DEFINITION"
location_word location.Interface = codes "INTERFACE"
location_word location.Union = codes "UNION"
location_word location.Enum = codes "ENUM"
location_word location.EnumValue = codes "ENUM_VALUE"
location_word location.InputObject = codes "INPUT_OBJECT"
location_word location.InputFieldDefinition = codes "INPUT_FIELD_DEFINITION"

pub data IsLocation : DirectiveLocation → Tokens → Tokens → Type 0 where
  a_location : {l : DirectiveLocation} {place : Span} {tokens rest : Tokens} → IsKeyword (location_word l) place tokens rest → IsLocation l tokens rest

-- repeatable? on
pub data IsRepeatable : Bool → Tokens → Tokens → Type 0 where
  once : {place : Span} {tokens rest : Tokens} → IsKeyword (codes "on") place tokens rest → IsRepeatable false tokens rest
  repeatable : {p q : Span} {tokens rest : Tokens} (a : Tokens) → IsKeyword (codes "repeatable") p tokens a → IsKeyword (codes "on") q a rest → IsRepeatable true tokens rest

-- an extension has some part behind its name
abbrev pub HasParts : BodyOf Span → Type 0
HasParts scalar_type = ⊥
HasParts (object_type is fields) = (is ≢ []) ⊎ (fields ≢ [])
HasParts (interface_type is fields) = (is ≢ []) ⊎ (fields ≢ [])
HasParts (union_type names) = names ≢ []
HasParts (enum_type values) = values ≢ []
HasParts (input_type fields) = fields ≢ []

-- TypeSystemDefinition | TypeSystemExtension (section 3)
pub data IsTypeSystemDefinition : TypeSystemOf Span → Tokens → Tokens → Type 0 where
  -- SchemaDefinition (section 3.3)
  a_schema_definition : {description : Option (NameOf Span)} {directives : List (DirectiveOf Span)} {roots : List (RootOf Span)} {tokens rest : Tokens} (a : Tokens) → IsDescription description tokens a → IsSchema directives roots a rest → roots ≢ [] → IsTypeSystemDefinition (schema false description directives roots (covered tokens rest)) tokens rest
  -- TypeDefinition (section 3.4)
  a_type_definition : {description : Option (NameOf Span)} {name : NameOf Span} {directives : List (DirectiveOf Span)} {body : BodyOf Span} {tokens rest : Tokens} (a : Tokens) → IsDescription description tokens a → IsTypeBody name directives body a rest → IsTypeSystemDefinition (type_definition false description name directives body (covered tokens rest)) tokens rest
  -- DirectiveDefinition : Description? directive @ Name ArgumentsDefinition? repeatable? on DirectiveLocations (section 3.13)
  a_directive_definition : {description : Option (NameOf Span)} {name : NameOf Span} {arguments : List (InputOf Span)} {again : Bool} {locations : List DirectiveLocation} {place : Span} {tokens rest : Tokens} (a b c d e f : Tokens) → IsDescription description tokens a → IsKeyword (codes "directive") place a b → IsPunctuator kind.At b c → IsName name c d → IsArgumentsDefinition arguments d e → IsRepeatable again e f → Delimited IsLocation kind.Pipe locations f rest → IsTypeSystemDefinition (directive_definition description name arguments again locations (covered tokens rest)) tokens rest
  -- SchemaExtension (section 3.3.2)
  a_schema_extension : {directives : List (DirectiveOf Span)} {roots : List (RootOf Span)} {place : Span} {tokens rest : Tokens} (a : Tokens) → IsKeyword (codes "extend") place tokens a → IsSchema directives roots a rest → (directives ≢ []) ⊎ (roots ≢ []) → IsTypeSystemDefinition (schema true None directives roots (covered tokens rest)) tokens rest
  -- TypeExtension (section 3.4.3)
  a_type_extension : {name : NameOf Span} {directives : List (DirectiveOf Span)} {body : BodyOf Span} {place : Span} {tokens rest : Tokens} (a : Tokens) → IsKeyword (codes "extend") place tokens a → IsTypeBody name directives body a rest → (directives ≢ []) ⊎ HasParts body → IsTypeSystemDefinition (type_definition true None name directives body (covered tokens rest)) tokens rest

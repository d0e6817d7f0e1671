-- Parts of type system definitions, as the private functions read them. Only contracts of private functions speak of these.
use Rattle.std.specs.Prelude.{◌≡◌, ◌≢◌, ◌||◌, ◌⊎◌, ℕ, Bool, true, false, List, [], ◌∷◌, Option, Some, None, codes, if◌then◌else◌}
use Rattle.std.specs.Str.{bytes_eq}
use Rattle.gq_text.specs.declared.place.Span.{Span}
use Rattle.gq_lex.specs.declared.token.Kind.TheVariants as kind
use Rattle.gq_tree.specs.declared.type_system.DirectiveLocation.{DirectiveLocation}
use Rattle.gq_tree.specs.Plain.{NameOf, DirectiveOf, InputOf, FieldDefinitionOf, EnumValueOf, RootOf, BodyOf, scalar_type, object_type, interface_type, union_type, enum_type, input_type, TypeSystemOf, schema, type_definition, directive_definition, Def, type_system}
use Rattle.gq_parse.specs.declared.type_definitions.TypeKind.{TypeKind}
use Rattle.gq_parse.specs.declared.type_definitions.TypeKind.TheVariants as of
use Rattle.gq_parse.specs.Grammar.{Tokens, covered, IsPunctuator, IsName, IsKeyword, OptionalMany, IsDirectives, IsOperationDefinition}
use Rattle.gq_parse.specs.TypeSystem.{Delimited, IsImplements, IsFieldsDefinition, IsMembers, IsEnumValueDefinition, IsInputValue, IsArgumentsDefinition, IsTypeBody, IsSchema, IsLocation, IsRepeatable, HasParts, IsTypeSystemDefinition}

-- the keyword of a type, and the type that a word begins, computed
abbrev pub kind_word : TypeKind → List ℕ
kind_word of.Scalar = codes "scalar"
kind_word of.Object = codes "type"
kind_word of.Interface = codes "interface"
kind_word of.Union = codes "union"
kind_word of.Enum = codes "enum"
kind_word of.InputObject = codes "input"

abbrev pub kind_named : List ℕ → Option TypeKind
kind_named word =
    if bytes_eq word (codes "scalar") then Some of.Scalar else
    if bytes_eq word (codes "type") then Some of.Object else
    if bytes_eq word (codes "interface") then Some of.Interface else
    if bytes_eq word (codes "union") then Some of.Union else
    if bytes_eq word (codes "enum") then Some of.Enum else
    if bytes_eq word (codes "input") then Some of.InputObject else
    None

-- Name Directives?
pub record IsNamed (name : NameOf Span) (directives : List (DirectiveOf Span)) (tokens rest : Tokens) : Type 0 where
  pub behind : Tokens
  pub names : IsName name tokens behind
  pub directs : IsDirectives true directives behind rest

-- Name ImplementsInterfaces? Directives? FieldsDefinition?
pub record IsFielded (name : NameOf Span) (is : List (NameOf Span)) (directives : List (DirectiveOf Span)) (fields : List (FieldDefinitionOf Span)) (tokens rest : Tokens) : Type 0 where
  pub a : Tokens
  pub b : Tokens
  pub c : Tokens
  pub names : IsName name tokens a
  pub implements : IsImplements is a b
  pub directs : IsDirectives true directives b c
  pub defines : IsFieldsDefinition fields c rest

-- what stands behind the keyword of a type
abbrev pub IsBodyBehind : TypeKind → NameOf Span → List (DirectiveOf Span) → BodyOf Span → Tokens → Tokens → Type 0
IsBodyBehind of.Scalar name directives body tokens rest = IsNamed name directives tokens rest × (body ≡ scalar_type)
IsBodyBehind of.Object name directives body tokens rest = (is : List (NameOf Span)) × (fields : List (FieldDefinitionOf Span)) × IsFielded name is directives fields tokens rest × (body ≡ object_type is fields)
IsBodyBehind of.Interface name directives body tokens rest = (is : List (NameOf Span)) × (fields : List (FieldDefinitionOf Span)) × IsFielded name is directives fields tokens rest × (body ≡ interface_type is fields)
IsBodyBehind of.Union name directives body tokens rest = (names : List (NameOf Span)) × (a : Tokens) × IsNamed name directives tokens a × IsMembers names a rest × (body ≡ union_type names)
IsBodyBehind of.Enum name directives body tokens rest = (values : List (EnumValueOf Span)) × (a : Tokens) × IsNamed name directives tokens a × OptionalMany IsEnumValueDefinition kind.BraceOpen kind.BraceClose values a rest × (body ≡ enum_type values)
IsBodyBehind of.InputObject name directives body tokens rest = (fields : List (InputOf Span)) × (a : Tokens) × IsNamed name directives tokens a × OptionalMany IsInputValue kind.BraceOpen kind.BraceClose fields a rest × (body ≡ input_type fields)

-- no such phrase stands first
abbrev pub LacksNamed : Tokens → Type 0
LacksNamed tokens = (name : NameOf Span) (directives : List (DirectiveOf Span)) (rest : Tokens) → IsNamed name directives tokens rest → ⊥

abbrev pub LacksFielded : Tokens → Type 0
LacksFielded tokens = (name : NameOf Span) (is : List (NameOf Span)) (directives : List (DirectiveOf Span)) (fields : List (FieldDefinitionOf Span)) (rest : Tokens) → IsFielded name is directives fields tokens rest → ⊥

abbrev pub LacksBehind : TypeKind → Tokens → Type 0
LacksBehind k tokens = (name : NameOf Span) (directives : List (DirectiveOf Span)) (body : BodyOf Span) (rest : Tokens) → IsBodyBehind k name directives body tokens rest → ⊥

abbrev pub LacksBody : Tokens → Type 0
LacksBody tokens = (name : NameOf Span) (directives : List (DirectiveOf Span)) (body : BodyOf Span) (rest : Tokens) → IsTypeBody name directives body tokens rest → ⊥

abbrev pub LacksSchema : Tokens → Type 0
LacksSchema tokens = (directives : List (DirectiveOf Span)) (roots : List (RootOf Span)) (rest : Tokens) → IsSchema directives roots tokens rest → ⊥

-- whether a list has items, and an extension parts
abbrev pub filled : {A : Type 0} → List A → Bool
filled [] = false
filled (x ∷ xs) = true

abbrev pub has_parts : BodyOf Span → Bool
has_parts scalar_type = false
has_parts (object_type is fields) = filled is || filled fields
has_parts (interface_type is fields) = filled is || filled fields
has_parts (union_type names) = filled names
has_parts (enum_type values) = filled values
has_parts (input_type fields) = filled fields

-- what stands behind the word `extend`, which the first tokens begin with
pub data IsSchemaExtended (first : Tokens) : TypeSystemOf Span → Tokens → Tokens → Type 0 where
  schema_extended : {directives : List (DirectiveOf Span)} {roots : List (RootOf Span)} {tokens rest : Tokens} → IsSchema directives roots tokens rest → ((directives ≢ []) ⊎ (roots ≢ [])) → IsSchemaExtended first (schema true None directives roots (covered first rest)) tokens rest

pub data IsTypeExtended (first : Tokens) : TypeSystemOf Span → Tokens → Tokens → Type 0 where
  type_extended : {name : NameOf Span} {directives : List (DirectiveOf Span)} {body : BodyOf Span} {tokens rest : Tokens} → IsTypeBody name directives body tokens rest → ((directives ≢ []) ⊎ HasParts body) → IsTypeExtended first (type_definition true None name directives body (covered first rest)) tokens rest

abbrev pub IsExtended : Tokens → TypeSystemOf Span → Tokens → Tokens → Type 0
IsExtended first d tokens rest = IsSchemaExtended first d tokens rest ⊎ IsTypeExtended first d tokens rest

-- what stands behind a description, which the first tokens begin with
pub data IsSchemaDescribed (first : Tokens) (description : Option (NameOf Span)) : TypeSystemOf Span → Tokens → Tokens → Type 0 where
  schema_described : {directives : List (DirectiveOf Span)} {roots : List (RootOf Span)} {tokens rest : Tokens} → IsSchema directives roots tokens rest → roots ≢ [] → IsSchemaDescribed first description (schema false description directives roots (covered first rest)) tokens rest

pub data IsTypeDescribed (first : Tokens) (description : Option (NameOf Span)) : TypeSystemOf Span → Tokens → Tokens → Type 0 where
  type_described : {name : NameOf Span} {directives : List (DirectiveOf Span)} {body : BodyOf Span} {tokens rest : Tokens} → IsTypeBody name directives body tokens rest → IsTypeDescribed first description (type_definition false description name directives body (covered first rest)) tokens rest

pub data IsDirectiveDescribed (first : Tokens) (description : Option (NameOf Span)) : TypeSystemOf Span → Tokens → Tokens → Type 0 where
  directive_described : {name : NameOf Span} {arguments : List (InputOf Span)} {again : Bool} {locations : List DirectiveLocation} {place : Span} {tokens rest : Tokens} (b c d e f : Tokens) → IsKeyword (codes "directive") place tokens b → IsPunctuator kind.At b c → IsName name c d → IsArgumentsDefinition arguments d e → IsRepeatable again e f → Delimited IsLocation kind.Pipe locations f rest → IsDirectiveDescribed first description (directive_definition description name arguments again locations (covered first rest)) tokens rest

abbrev pub IsDirectiveOrType : Tokens → Option (NameOf Span) → TypeSystemOf Span → Tokens → Tokens → Type 0
IsDirectiveOrType first description d tokens rest = IsDirectiveDescribed first description d tokens rest ⊎ IsTypeDescribed first description d tokens rest

abbrev pub IsDescribed : Tokens → Option (NameOf Span) → TypeSystemOf Span → Tokens → Tokens → Type 0
IsDescribed first description d tokens rest = IsSchemaDescribed first description d tokens rest ⊎ IsDirectiveOrType first description d tokens rest

-- a definition that is no fragment
pub data IsTypeSystem : Def Span → Tokens → Tokens → Type 0 where
  of_type_system : {d : TypeSystemOf Span} {tokens rest : Tokens} → IsTypeSystemDefinition d tokens rest → IsTypeSystem (type_system d) tokens rest

abbrev pub IsOperationOrTypeSystem : Def Span → Tokens → Tokens → Type 0
IsOperationOrTypeSystem d tokens rest = IsOperationDefinition d tokens rest ⊎ IsTypeSystem d tokens rest

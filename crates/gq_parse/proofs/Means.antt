-- What is expected, by the grammar's own relations. In the files Next..., a lemma forth_x says that what a symbol stands
-- for goes on, behind its first token, as the symbol's move says, and back_x the converse.
use Rattle.std.proofs.Common.{◌≡◌, ◌≢◌, List, [], ◌∷◌, Bool, true, Option, refl, sym, subst, ◌⊎◌}
use Rattle.std.specs.Prelude.{codes, ℕ}
use Rattle.gq_text.specs.declared.place.Span.{Span}
use Rattle.gq_lex.specs.declared.token.Kind.{Kind}
use Rattle.gq_lex.specs.declared.token.Kind.TheVariants as kind
use Rattle.gq_lex.specs.Tokens.{Lexeme}
use Rattle.gq_tree.specs.declared.type_system.DirectiveLocation.{DirectiveLocation}
use Rattle.gq_tree.specs.Forest.{more}
use Rattle.gq_tree.specs.Plain.{NameOf, Says, Val, Vals, DirectiveOf, TypeOf, VariableOf, Head, Sels, Def, InputOf, FieldDefinitionOf, EnumValueOf, RootOf, BodyOf}
use Rattle.gq_parse.specs.Grammar.{Tokens, IsPunctuator, IsSpelled, IsName, IsKeyword, NotNext, ManyUntil, OptionalMany, IsFragmentName, IsOptionalName, IsValueWord, IsValue, IsValues, IsObjectFields, IsArgument, IsDirectives, IsType, IsDefaultValue, IsVariableDefinition, IsOptionalSet, IsSelectionSet, IsSelections, IsSelection}
use Rattle.gq_parse.specs.TypeSystem.{Separated, Delimited, IsRoot, IsSchema, IsInputValue, IsFieldDefinition, IsEnumValueDefinition, IsImplements, IsMembers, IsTypeBody, IsLocation, IsRepeatable, HasParts, IsArgumentsDefinition, IsFieldsDefinition}
use Rattle.gq_parse.specs.Documents.{IsDefinition}
use Rattle.gq_parse.specs.Helping.Words.{word_of}
use Rattle.gq_parse.specs.declared.expected.Word.{Word}
use Rattle.gq_parse.specs.declared.expected.Row.{Row}
use Rattle.gq_parse.specs.declared.expected.Row.TheVariants.{Arguments, Variables, ArgumentDefinitions, InputFields, Fields, EnumValues, Roots}
use Rattle.gq_parse.specs.declared.expected.Series.{Series}
use Rattle.gq_parse.specs.declared.expected.Series.TheVariants.{Interfaces, Members, Locations}
use Rattle.gq_parse.specs.declared.expected.Symbol.{Symbol}
use Rattle.gq_parse.specs.declared.expected.Symbol.TheVariants.{AnyName, FragmentName, EnumValueName, OnWord, Colon, AtSign, CloseBracket, Value, MoreValues, MoreObjectFields, Directives, SomeDirectives, OptionalRow, WholeRow, FirstOf, MoreOf, PartsWith, LedSeries, SeriesPart, MoreParts, OptionalDefault, AnyType, OptionalBang, OptionalName, OptionalAlias, Set, OptionalSet, FirstSelection, MoreSelections, AfterDots, Definition, Described, Extension, ExtendedScalar, TypeParts, UnionParts, OptionalImplements, OptionalMembers, OptionalRepeatable}
use Rattle.gq_parse.specs.declared.expected.Move.{Move}
use Rattle.gq_parse.specs.declared.expected.Move.TheVariants.{Takes, TakesThen, TakesThenTwo, TakesThenThree, TakesThenFour, TakesThenFive, TakesThenSix, Skips, Stops}
use Rattle.gq_parse.specs.Helping.Expected.{in_parens, opening, closing, behind, move}

-- the parts of a row
abbrev pub PartOf : Row → Type 0
PartOf (Arguments constant) = Val Span
PartOf Variables = VariableOf Span
PartOf ArgumentDefinitions = InputOf Span
PartOf InputFields = InputOf Span
PartOf Fields = FieldDefinitionOf Span
PartOf EnumValues = EnumValueOf Span
PartOf Roots = RootOf Span

abbrev pub IsPart : (r : Row) → PartOf r → Tokens → Tokens → Type 0
IsPart (Arguments constant) = IsArgument constant
IsPart Variables = IsVariableDefinition
IsPart ArgumentDefinitions = IsInputValue
IsPart InputFields = IsInputValue
IsPart Fields = IsFieldDefinition
IsPart EnumValues = IsEnumValueDefinition
IsPart Roots = IsRoot

abbrev pub IsRow : (r : Row) → List (PartOf r) → Tokens → Tokens → Type 0
IsRow r = OptionalMany (IsPart r) (opening (in_parens r)) (closing (in_parens r))

abbrev pub IsRestOfRow : (r : Row) → List (PartOf r) → Tokens → Tokens → Type 0
IsRestOfRow r = ManyUntil (IsPart r) (closing (in_parens r))

-- the parts of a series
abbrev pub PieceOf : Series → Type 0
PieceOf Interfaces = NameOf Span
PieceOf Members = NameOf Span
PieceOf Locations = DirectiveLocation

abbrev pub IsPieceOf : (s : Series) → PieceOf s → Tokens → Tokens → Type 0
IsPieceOf Interfaces = IsName
IsPieceOf Members = IsName
IsPieceOf Locations = IsLocation

abbrev pub separator : Series → Kind
separator Interfaces = kind.Ampersand
separator Members = kind.Pipe
separator Locations = kind.Pipe

-- the parts of an extension
abbrev pub IsParts : (r : Row) → Tokens → Tokens → Type 0
IsParts r x y = (ds : List (DirectiveOf Span)) × (rows : List (PartOf r)) × (a : Tokens) × IsDirectives true ds x a × IsRow r rows a y × ((ds ≢ []) ⊎ (rows ≢ []))

-- a directive definition behind its description
pub record IsDirectiveDefinition (name : NameOf Span) (arguments : List (InputOf Span)) (again : Bool) (locations : List DirectiveLocation) (tokens rest : Tokens) : Type 0 where
  pub place : Span
  pub b : Tokens
  pub c : Tokens
  pub d : Tokens
  pub e : Tokens
  pub f : Tokens
  pub keyword : IsKeyword (codes "directive") place tokens b
  pub at : IsPunctuator kind.At b c
  pub is_name : IsName name c d
  pub is_arguments : IsArgumentsDefinition arguments d e
  pub is_again : IsRepeatable again e f
  pub is_locations : Delimited IsLocation kind.Pipe locations f rest

-- what a symbol stands for
abbrev pub Means : Symbol → Tokens → Tokens → Type 0
Means AnyName x y = (n : NameOf Span) × IsName n x y
Means FragmentName x y = (n : NameOf Span) × IsFragmentName n x y
Means EnumValueName x y = (n : NameOf Span) × IsName n x y × (IsValueWord n.text → ⊥)
Means OnWord x y = (p : Span) × IsKeyword (codes "on") p x y
Means Colon x y = IsPunctuator kind.Colon x y
Means AtSign x y = IsPunctuator kind.At x y
Means CloseBracket x y = IsPunctuator kind.BracketClose x y
Means (Value constant) x y = (s : Says Span) × (vs : Vals Span) × IsValue constant s vs x y
Means (MoreValues constant) x y = (vs : Vals Span) × IsValues constant vs x y
Means (MoreObjectFields constant) x y = (vs : Vals Span) × IsObjectFields constant vs x y
Means (Directives constant) x y = (ds : List (DirectiveOf Span)) × IsDirectives constant ds x y
Means SomeDirectives x y = (d : DirectiveOf Span) × (ds : List (DirectiveOf Span)) × IsDirectives true (d ∷ ds) x y
Means (OptionalRow r) x y = (ps : List (PartOf r)) × IsRow r ps x y
Means (WholeRow r) x y = (p : PartOf r) × (ps : List (PartOf r)) × IsRow r (p ∷ ps) x y
Means (FirstOf r) x y = (p : PartOf r) × (ps : List (PartOf r)) × IsRestOfRow r (p ∷ ps) x y
Means (MoreOf r) x y = (ps : List (PartOf r)) × IsRestOfRow r ps x y
Means (PartsWith r) x y = IsParts r x y
Means (LedSeries s) x y = (ps : List (PieceOf s)) × Delimited (IsPieceOf s) (separator s) ps x y
Means (SeriesPart s) x y = (ps : List (PieceOf s)) × Separated (IsPieceOf s) (separator s) ps x y
Means (MoreParts s) x y = (NotNext (separator s) x × (x ≡ y)) ⊎ ((ps : List (PieceOf s)) × (b : Tokens) × IsPunctuator (separator s) x b × Separated (IsPieceOf s) (separator s) ps b y)
Means OptionalDefault x y = (d : Option (Val Span)) × IsDefaultValue d x y
Means AnyType x y = (t : TypeOf Span) × IsType t x y
Means OptionalBang x y = (NotNext kind.Bang x × (x ≡ y)) ⊎ IsPunctuator kind.Bang x y
Means OptionalName x y = (n : Option (NameOf Span)) × IsOptionalName n x y
Means OptionalAlias x y = (NotNext kind.Colon x × (x ≡ y)) ⊎ ((b : Tokens) × (n : NameOf Span) × IsPunctuator kind.Colon x b × IsName n b y)
Means Set x y = (ss : Sels Span) × IsSelectionSet ss x y
Means OptionalSet x y = (braces : Option Span) × (ss : Sels Span) × IsOptionalSet braces ss x y
Means FirstSelection x y = (h : Head Span) × (below : Sels Span) × (ss : Sels Span) × IsSelections (more h below ss) x y
Means MoreSelections x y = (ss : Sels Span) × IsSelections ss x y
Means AfterDots x y = (before : Tokens) × (h : Head Span) × (below : Sels Span) × IsSelection h below before y × IsPunctuator kind.Spread before x
Means Definition x y = (d : Def Span) × IsDefinition d x y
Means Described x y =
    ((ds : List (DirectiveOf Span)) × (roots : List (RootOf Span)) × IsSchema ds roots x y × (roots ≢ []))
    ⊎ ((n : NameOf Span) × (ds : List (DirectiveOf Span)) × (body : BodyOf Span) × IsTypeBody n ds body x y)
    ⊎ ((n : NameOf Span) × (arguments : List (InputOf Span)) × (again : Bool) × (locations : List DirectiveLocation) × IsDirectiveDefinition n arguments again locations x y)
Means Extension x y =
    ((ds : List (DirectiveOf Span)) × (roots : List (RootOf Span)) × IsSchema ds roots x y × ((ds ≢ []) ⊎ (roots ≢ [])))
    ⊎ ((n : NameOf Span) × (ds : List (DirectiveOf Span)) × (body : BodyOf Span) × IsTypeBody n ds body x y × ((ds ≢ []) ⊎ HasParts body))
Means ExtendedScalar x y = (n : NameOf Span) × (d : DirectiveOf Span) × (ds : List (DirectiveOf Span)) × (a : Tokens) × IsName n x a × IsDirectives true (d ∷ ds) a y
Means TypeParts x y = (is : List (NameOf Span)) × (ds : List (DirectiveOf Span)) × (fields : List (FieldDefinitionOf Span)) × (a : Tokens) × (b : Tokens) × IsImplements is x a × IsDirectives true ds a b × IsFieldsDefinition fields b y × ((ds ≢ []) ⊎ ((is ≢ []) ⊎ (fields ≢ [])))
Means UnionParts x y = (ds : List (DirectiveOf Span)) × (names : List (NameOf Span)) × (a : Tokens) × IsDirectives true ds x a × IsMembers names a y × ((ds ≢ []) ⊎ (names ≢ []))
Means OptionalImplements x y = (is : List (NameOf Span)) × IsImplements is x y
Means OptionalMembers x y = (names : List (NameOf Span)) × IsMembers names x y
Means OptionalRepeatable x y = (again : Bool) × IsRepeatable again x y

-- what is behind a token that makes a move
abbrev pub After : Move → Lexeme → Tokens → Tokens → Type 0
After Takes t ts y = ts ≡ y
After (TakesThen a) t ts y = Means a ts y
After (TakesThenTwo a b) t ts y = (m : Tokens) × Means a ts m × Means b m y
After (TakesThenThree a b c) t ts y = (m : Tokens) × (n : Tokens) × Means a ts m × Means b m n × Means c n y
After (TakesThenFour a b c d) t ts y = (m : Tokens) × (n : Tokens) × (o : Tokens) × Means a ts m × Means b m n × Means c n o × Means d o y
After (TakesThenFive a b c d e) t ts y = (m : Tokens) × (n : Tokens) × (o : Tokens) × (p : Tokens) × Means a ts m × Means b m n × Means c n o × Means d o p × Means e p y
After (TakesThenSix a b c d e f) t ts y = (m : Tokens) × (n : Tokens) × (o : Tokens) × (p : Tokens) × (q : Tokens) × Means a ts m × Means b m n × Means c n o × Means d o p × Means e p q × Means f q y
After Skips t ts y = t ∷ ts ≡ y
After Stops t ts y = ⊥

-- the token's move
abbrev pub Next : Symbol → Lexeme → Tokens → Tokens → Type 0
Next s t ts y = After (move s t.kind (word_of t.text)) t ts y

pub punctuator : {k : Kind} {t : Lexeme} {ts rest : Tokens} → IsPunctuator k (t ∷ ts) rest → (t.kind ≡ k) × (rest ≡ ts)
punctuator {k} {t} {ts} {rest} h = let e = h.first in let f = h.kind in (cc, cc)

pub spelled : {k : Kind} {text : List ℕ} {place : Span} {t : Lexeme} {ts rest : Tokens} → IsSpelled k text place (t ∷ ts) rest → (t.kind ≡ k) × (rest ≡ ts) × (text ≡ t.text)
spelled {k} {text} {place} {t} {ts} {rest} h = let e = h.first in let f = h.kind in let g = h.spelling in (cc, cc, cc)

pub here : {k : Kind} {t : Lexeme} {ts : Tokens} → t.kind ≡ k → IsPunctuator k (t ∷ ts) ts
here {k} {t} {ts} e = record { token = t; first = refl; kind = e }

pub spelled_here : {k : Kind} {t : Lexeme} {ts : Tokens} → t.kind ≡ k → IsSpelled k t.text t.span (t ∷ ts) ts
spelled_here {k} {t} {ts} e = record { token = t; first = refl; kind = e; spelling = refl; span = refl }

pub name_here : {t : Lexeme} {ts : Tokens} → t.kind ≡ kind.Name → IsName (record { text = t.text; place = t.span }) (t ∷ ts) ts
name_here e = spelled_here e

pub keyword_here : {t : Lexeme} {ts : Tokens} (text : List ℕ) → t.kind ≡ kind.Name → text ≡ t.text → IsKeyword text t.span (t ∷ ts) ts
keyword_here {t} {ts} text e f = record { token = t; first = refl; kind = e; spelling = f; span = refl }

pub at_kind : (t : Lexeme) (ts y : Tokens) (s : Symbol) (k : Kind) → t.kind ≡ k → After (move s k (word_of t.text)) t ts y → Next s t ts y
at_kind t ts y s k e h = subst (λ (x : Kind). After (move s x (word_of t.text)) t ts y) (sym e) h

pub at_word : (t : Lexeme) (ts y : Tokens) (s : Symbol) (k : Kind) (w : Word) → t.kind ≡ k → word_of t.text ≡ w → After (move s k w) t ts y → Next s t ts y
at_word t ts y s k w e f h = at_kind t ts y s k e (subst (λ (x : Word). After (move s k x) t ts y) (sym f) h)

pub by_move : (t : Lexeme) (ts y : Tokens) (m n : Move) → n ≡ m → After m t ts y → After n t ts y
by_move t ts y m n e h = subst (λ (x : Move). After x t ts y) (sym e) h

-- a symbol can be put behind it
abbrev pub CanGoOn : Move → Type 0
CanGoOn Skips = ⊥
CanGoOn (TakesThenSix a b c d e f) = ⊥
CanGoOn _ = Unit {0}

pub put_behind : (t : Lexeme) (ts a y : Tokens) (m : Move) (s : Symbol) → CanGoOn m → After m t ts a → Means s a y → After (behind m s) t ts y
put_behind t ts a y Takes s u h r = subst (λ (x : Tokens). Means s x y) (sym h) r
put_behind t ts a y (TakesThen b) s u h r = (a, h, r)
put_behind t ts a y (TakesThenTwo b c) s u h r = (h.0, a, h.1, h.2, r)
put_behind t ts a y (TakesThenThree b c d) s u h r = (h.0, h.1, a, h.2, h.3, h.4, r)
put_behind t ts a y (TakesThenFour b c d e) s u h r = (h.0, h.1, h.2, a, h.3, h.4, h.5, h.6, r)
put_behind t ts a y (TakesThenFive b c d e f) s u h r = (h.0, h.1, h.2, h.3, a, h.4, h.5, h.6, h.7, h.8, r)
put_behind t ts a y (TakesThenSix b c d e f g) s u h r = absurd u
put_behind t ts a y Skips s u h r = absurd u
put_behind t ts a y Stops s u h r = absurd h

pub taken_off : (t : Lexeme) (ts y : Tokens) (m : Move) (s : Symbol) → After (behind m s) t ts y → (a : Tokens) × After m t ts a × Means s a y
taken_off t ts y Takes s h = (ts, refl, h)
taken_off t ts y (TakesThen b) s h = (h.0, h.1, h.2)
taken_off t ts y (TakesThenTwo b c) s h = (h.1, (h.0, h.2, h.3), h.4)
taken_off t ts y (TakesThenThree b c d) s h = (h.2, (h.0, h.1, h.3, h.4, h.5), h.6)
taken_off t ts y (TakesThenFour b c d e) s h = (h.3, (h.0, h.1, h.2, h.4, h.5, h.6, h.7), h.8)
taken_off t ts y (TakesThenFive b c d e f) s h = (h.4, (h.0, h.1, h.2, h.3, h.5, h.6, h.7, h.8, h.9), h.10)
taken_off t ts y (TakesThenSix b c d e f g) s h = absurd h
taken_off t ts y Skips s h = absurd h
taken_off t ts y Stops s h = absurd h

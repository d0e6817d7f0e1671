-- What a token does where a symbol is expected, and to a stack of symbols, for private contracts alone.
use Rattle.std.specs.Prelude.{List, [], ◌∷◌, Bool, true, false, Option, Some, None, if◌then◌else◌}
use Rattle.gq_lex.specs.declared.token.Kind.{Kind}
use Rattle.gq_lex.specs.declared.token.Kind.TheVariants as kind
use Rattle.gq_parse.specs.declared.expected.Word.{Word}
use Rattle.gq_parse.specs.declared.expected.Word.TheVariants as word
use Rattle.gq_parse.specs.declared.expected.Row.{Row}
use Rattle.gq_parse.specs.declared.expected.Row.TheVariants.{Arguments, Variables, ArgumentDefinitions, InputFields, Fields, EnumValues, Roots}
use Rattle.gq_parse.specs.declared.expected.Series.{Series}
use Rattle.gq_parse.specs.declared.expected.Series.TheVariants.{Interfaces, Members, Locations}
use Rattle.gq_parse.specs.declared.expected.Symbol.{Symbol}
use Rattle.gq_parse.specs.declared.expected.Symbol.TheVariants.{AnyName, FragmentName, EnumValueName, OnWord, Colon, AtSign, CloseBracket, Value, MoreValues, MoreObjectFields, Directives, SomeDirectives, OptionalRow, WholeRow, FirstOf, MoreOf, PartsWith, LedSeries, SeriesPart, MoreParts, OptionalDefault, AnyType, OptionalBang, OptionalName, OptionalAlias, Set, OptionalSet, FirstSelection, MoreSelections, AfterDots, Definition, Described, Extension, ExtendedScalar, TypeParts, UnionParts, OptionalImplements, OptionalMembers, OptionalRepeatable}
use Rattle.gq_parse.specs.declared.expected.Move.{Move}
use Rattle.gq_parse.specs.declared.expected.Move.TheVariants.{Takes, TakesThen, TakesThenTwo, TakesThenThree, TakesThenFour, TakesThenFive, TakesThenSix, Skips, Stops}

-- a symbol behind what a token that begins a phrase leaves
abbrev pub behind : Move → Symbol → Move
behind Takes s = TakesThen s
behind (TakesThen a) s = TakesThenTwo a s
behind (TakesThenTwo a b) s = TakesThenThree a b s
behind (TakesThenThree a b c) s = TakesThenFour a b c s
behind (TakesThenFour a b c d) s = TakesThenFive a b c d s
behind (TakesThenFive a b c d e) s = TakesThenSix a b c d e s
behind (TakesThenSix a b c d e f) s = Stops
behind Skips s = Stops
behind Stops s = Stops

abbrev pub name_move : Kind → Move → Move
name_move kind.Name m = m
name_move _ m = Stops

abbrev pub on_word_move : Word → Move
on_word_move word.On = Takes
on_word_move _ = Stops

abbrev pub not_on_move : Word → Move → Move
not_on_move word.On m = Stops
not_on_move _ m = m

abbrev pub colon_move : Kind → Move
colon_move kind.Colon = Takes
colon_move _ = Stops

abbrev pub at_move : Kind → Move
at_move kind.At = Takes
at_move _ = Stops

abbrev pub bracket_move : Kind → Move
bracket_move kind.BracketClose = Takes
bracket_move _ = Stops

-- values
abbrev pub value_move : Bool → Kind → Move
value_move constant kind.Dollar = if constant then Stops else TakesThen AnyName
value_move constant kind.Int = Takes
value_move constant kind.Float = Takes
value_move constant kind.String = Takes
value_move constant kind.BlockString = Takes
value_move constant kind.Name = Takes
value_move constant kind.BracketOpen = TakesThen (MoreValues constant)
value_move constant kind.BraceOpen = TakesThen (MoreObjectFields constant)
value_move constant _ = Stops

abbrev pub values_move : Bool → Kind → Move
values_move constant kind.BracketClose = Takes
values_move constant k = behind (value_move constant k) (MoreValues constant)

abbrev pub object_fields_move : Bool → Kind → Move
object_fields_move constant kind.BraceClose = Takes
object_fields_move constant kind.Name = TakesThenThree Colon (Value constant) (MoreObjectFields constant)
object_fields_move constant _ = Stops

abbrev pub default_move : Kind → Move
default_move kind.Equals = TakesThen (Value true)
default_move _ = Skips

abbrev pub directives_move : Bool → Kind → Move
directives_move constant kind.At = TakesThenThree AnyName (OptionalRow (Arguments constant)) (Directives constant)
directives_move constant _ = Skips

-- types
abbrev pub type_move : Kind → Move
type_move kind.Name = TakesThen OptionalBang
type_move kind.BracketOpen = TakesThenThree AnyType CloseBracket OptionalBang
type_move _ = Stops

abbrev pub bang_move : Kind → Move
bang_move kind.Bang = Takes
bang_move _ = Skips

-- selections
abbrev pub optional_name_move : Kind → Move
optional_name_move kind.Name = Takes
optional_name_move _ = Skips

abbrev pub alias_move : Kind → Move
alias_move kind.Colon = TakesThen AnyName
alias_move _ = Skips

abbrev pub set_move : Kind → Move → Move
set_move kind.BraceOpen m = TakesThen FirstSelection
set_move _ m = m

abbrev pub selection_move : Kind → Move
selection_move kind.Name = TakesThenFour OptionalAlias (OptionalRow (Arguments false)) (Directives false) OptionalSet
selection_move kind.Spread = TakesThen AfterDots
selection_move _ = Stops

abbrev pub selections_move : Kind → Move
selections_move kind.BraceClose = Takes
selections_move k = behind (selection_move k) MoreSelections

abbrev pub dots_word_move : Word → Move
dots_word_move word.On = TakesThenThree AnyName (Directives false) Set
dots_word_move _ = TakesThen (Directives false)

abbrev pub dots_move : Kind → Word → Move
dots_move kind.Name w = dots_word_move w
dots_move kind.At w = TakesThenFour AnyName (OptionalRow (Arguments false)) (Directives false) Set
dots_move kind.BraceOpen w = TakesThen FirstSelection
dots_move _ w = Stops

-- the parts of rows
abbrev pub argument_move : Bool → Kind → Move
argument_move constant kind.Name = TakesThenTwo Colon (Value constant)
argument_move constant _ = Stops

abbrev pub variable_move : Kind → Move
variable_move kind.Dollar = TakesThenFive AnyName Colon AnyType OptionalDefault (Directives true)
variable_move _ = Stops

abbrev pub input_move : Kind → Move
input_move kind.Name = TakesThenFour Colon AnyType OptionalDefault (Directives true)
input_move kind.String = TakesThenFive AnyName Colon AnyType OptionalDefault (Directives true)
input_move kind.BlockString = TakesThenFive AnyName Colon AnyType OptionalDefault (Directives true)
input_move _ = Stops

abbrev pub field_move : Kind → Move
field_move kind.Name = TakesThenFour (OptionalRow ArgumentDefinitions) Colon AnyType (Directives true)
field_move kind.String = TakesThenFive AnyName (OptionalRow ArgumentDefinitions) Colon AnyType (Directives true)
field_move kind.BlockString = TakesThenFive AnyName (OptionalRow ArgumentDefinitions) Colon AnyType (Directives true)
field_move _ = Stops

abbrev pub value_word_stops : Word → Move → Move
value_word_stops word.True m = Stops
value_word_stops word.False m = Stops
value_word_stops word.Null m = Stops
value_word_stops _ m = m

abbrev pub enum_value_move : Kind → Word → Move
enum_value_move kind.Name w = value_word_stops w (TakesThen (Directives true))
enum_value_move kind.String w = TakesThenTwo EnumValueName (Directives true)
enum_value_move kind.BlockString w = TakesThenTwo EnumValueName (Directives true)
enum_value_move _ w = Stops

abbrev pub root_word_move : Word → Move
root_word_move word.Query = TakesThenTwo Colon AnyName
root_word_move word.Mutation = TakesThenTwo Colon AnyName
root_word_move word.Subscription = TakesThenTwo Colon AnyName
root_word_move _ = Stops

abbrev pub part_move : Row → Kind → Word → Move
part_move (Arguments constant) k w = argument_move constant k
part_move Variables k w = variable_move k
part_move ArgumentDefinitions k w = input_move k
part_move InputFields k w = input_move k
part_move Fields k w = field_move k
part_move EnumValues k w = enum_value_move k w
part_move Roots k w = name_move k (root_word_move w)

-- rows
abbrev pub in_parens : Row → Bool
in_parens (Arguments constant) = true
in_parens Variables = true
in_parens ArgumentDefinitions = true
in_parens InputFields = false
in_parens Fields = false
in_parens EnumValues = false
in_parens Roots = false

abbrev pub opening : Bool → Kind
opening true = kind.ParenOpen
opening false = kind.BraceOpen

abbrev pub closing : Bool → Kind
closing true = kind.ParenClose
closing false = kind.BraceClose

abbrev pub opens : Bool → Kind → Bool
opens true kind.ParenOpen = true
opens false kind.BraceOpen = true
opens _ _ = false

abbrev pub closes : Bool → Kind → Bool
closes true kind.ParenClose = true
closes false kind.BraceClose = true
closes _ _ = false

abbrev pub row_move : Row → Kind → Move → Move
row_move r k m = if opens (in_parens r) k then TakesThen (FirstOf r) else m

abbrev pub more_move : Row → Kind → Word → Move
more_move r k w = if closes (in_parens r) k then Takes else behind (part_move r k w) (MoreOf r)

abbrev pub parts_move : Kind → Symbol → Move → Move
parts_move kind.At s m = TakesThenFour AnyName (OptionalRow (Arguments true)) (Directives true) s
parts_move _ s m = m

abbrev pub some_directives_move : Kind → Move
some_directives_move kind.At = TakesThenThree AnyName (OptionalRow (Arguments true)) (Directives true)
some_directives_move _ = Stops

-- series
abbrev pub separates : Series → Kind → Bool
separates Interfaces kind.Ampersand = true
separates Members kind.Pipe = true
separates Locations kind.Pipe = true
separates _ _ = false

abbrev pub location_move : Word → Move
location_move word.Location = TakesThen (MoreParts Locations)
location_move _ = Stops

abbrev pub series_word_move : Series → Word → Move
series_word_move Interfaces w = TakesThen (MoreParts Interfaces)
series_word_move Members w = TakesThen (MoreParts Members)
series_word_move Locations w = location_move w

abbrev pub separator_move : Series → Kind → Move → Move
separator_move s k m = if separates s k then TakesThen (SeriesPart s) else m

-- type system definitions
abbrev pub implements_move : Word → Move → Move → Move
implements_move word.Implements m other = m
implements_move _ m other = other

abbrev pub optional_implements_move : Kind → Word → Move
optional_implements_move kind.Name w = implements_move w (TakesThen (LedSeries Interfaces)) Skips
optional_implements_move _ w = Skips

abbrev pub members_move : Kind → Move → Move
members_move kind.Equals m = TakesThen (LedSeries Members)
members_move _ m = m

abbrev pub repeatable_move : Word → Move
repeatable_move word.On = Takes
repeatable_move word.Repeatable = TakesThen OnWord
repeatable_move _ = Stops

abbrev pub type_parts_move : Kind → Word → Move
type_parts_move kind.Name w = implements_move w (TakesThenThree (LedSeries Interfaces) (Directives true) (OptionalRow Fields)) Stops
type_parts_move k w = parts_move k (OptionalRow Fields) (row_move Fields k Stops)

-- definitions
abbrev pub described_move : Word → Move
described_move word.Schema = TakesThenTwo (Directives true) (WholeRow Roots)
described_move word.Scalar = TakesThenTwo AnyName (Directives true)
described_move word.Object = TakesThenFour AnyName OptionalImplements (Directives true) (OptionalRow Fields)
described_move word.Interface = TakesThenFour AnyName OptionalImplements (Directives true) (OptionalRow Fields)
described_move word.Union = TakesThenThree AnyName (Directives true) OptionalMembers
described_move word.Enum = TakesThenThree AnyName (Directives true) (OptionalRow EnumValues)
described_move word.Input = TakesThenThree AnyName (Directives true) (OptionalRow InputFields)
described_move word.Directive = TakesThenFive AtSign AnyName (OptionalRow ArgumentDefinitions) OptionalRepeatable (LedSeries Locations)
described_move _ = Stops

abbrev pub extension_move : Word → Move
extension_move word.Schema = TakesThen (PartsWith Roots)
extension_move word.Scalar = TakesThen ExtendedScalar
extension_move word.Object = TakesThenTwo AnyName TypeParts
extension_move word.Interface = TakesThenTwo AnyName TypeParts
extension_move word.Union = TakesThenTwo AnyName UnionParts
extension_move word.Enum = TakesThenTwo AnyName (PartsWith EnumValues)
extension_move word.Input = TakesThenTwo AnyName (PartsWith InputFields)
extension_move _ = Stops

abbrev pub definition_word_move : Word → Move
definition_word_move word.Query = TakesThenFour OptionalName (OptionalRow Variables) (Directives false) Set
definition_word_move word.Mutation = TakesThenFour OptionalName (OptionalRow Variables) (Directives false) Set
definition_word_move word.Subscription = TakesThenFour OptionalName (OptionalRow Variables) (Directives false) Set
definition_word_move word.Fragment = TakesThenFive FragmentName OnWord AnyName (Directives false) Set
definition_word_move word.Extend = TakesThen Extension
definition_word_move w = described_move w

abbrev pub definition_move : Kind → Word → Move
definition_move kind.Name w = definition_word_move w
definition_move kind.BraceOpen w = TakesThen FirstSelection
definition_move kind.String w = TakesThen Described
definition_move kind.BlockString w = TakesThen Described
definition_move _ w = Stops

-- What a token of a kind does where a symbol is expected, its text being this word.
abbrev pub move : Symbol → Kind → Word → Move
move AnyName k w = name_move k Takes
move FragmentName k w = name_move k (not_on_move w Takes)
move EnumValueName k w = name_move k (value_word_stops w Takes)
move OnWord k w = name_move k (on_word_move w)
move Colon k w = colon_move k
move AtSign k w = at_move k
move CloseBracket k w = bracket_move k
move (Value constant) k w = value_move constant k
move (MoreValues constant) k w = values_move constant k
move (MoreObjectFields constant) k w = object_fields_move constant k
move (Directives constant) k w = directives_move constant k
move SomeDirectives k w = some_directives_move k
move (OptionalRow r) k w = row_move r k Skips
move (WholeRow r) k w = row_move r k Stops
move (FirstOf r) k w = behind (part_move r k w) (MoreOf r)
move (MoreOf r) k w = more_move r k w
move (PartsWith r) k w = parts_move k (OptionalRow r) (row_move r k Stops)
move (LedSeries s) k w = separator_move s k (name_move k (series_word_move s w))
move (SeriesPart s) k w = name_move k (series_word_move s w)
move (MoreParts s) k w = separator_move s k Skips
move OptionalDefault k w = default_move k
move AnyType k w = type_move k
move OptionalBang k w = bang_move k
move OptionalName k w = optional_name_move k
move OptionalAlias k w = alias_move k
move Set k w = set_move k Stops
move OptionalSet k w = set_move k Skips
move FirstSelection k w = behind (selection_move k) MoreSelections
move MoreSelections k w = selections_move k
move AfterDots k w = dots_move k w
move Definition k w = definition_move k w
move Described k w = name_move k (described_move w)
move Extension k w = name_move k (extension_move w)
move ExtendedScalar k w = name_move k (TakesThen SomeDirectives)
move TypeParts k w = type_parts_move k w
move UnionParts k w = parts_move k OptionalMembers (members_move k Stops)
move OptionalImplements k w = optional_implements_move k w
move OptionalMembers k w = members_move k Skips
move OptionalRepeatable k w = name_move k (repeatable_move w)

-- what is expected behind a token that a symbol takes, above what is expected below
abbrev pub pushed : Move → List Symbol → Option (List Symbol)
pushed Takes ss = Some ss
pushed (TakesThen a) ss = Some (a ∷ ss)
pushed (TakesThenTwo a b) ss = Some (a ∷ b ∷ ss)
pushed (TakesThenThree a b c) ss = Some (a ∷ b ∷ c ∷ ss)
pushed (TakesThenFour a b c d) ss = Some (a ∷ b ∷ c ∷ d ∷ ss)
pushed (TakesThenFive a b c d e) ss = Some (a ∷ b ∷ c ∷ d ∷ e ∷ ss)
pushed (TakesThenSix a b c d e f) ss = Some (a ∷ b ∷ c ∷ d ∷ e ∷ f ∷ ss)
pushed Skips ss = None
pushed Stops ss = None

-- the same, with what a skipped token does below
abbrev pub resolve : Move → List Symbol → Option (List Symbol) → Option (List Symbol)
resolve Skips ss skipped = skipped
resolve m ss skipped = pushed m ss

-- the stack behind a token, or none where the token cannot stand; an empty stack expects definitions, or the end
abbrev pub advance : List Symbol → Kind → Word → Option (List Symbol)
advance [] k w = resolve (move Definition k w) [] None
advance (s ∷ ss) k w = resolve (move s k w) ss (advance ss k w)

-- Each symbol can be completed, and its completion begins neither a directive nor what goes on with a series.
use Rattle.std.proofs.Common.{◌≡◌, ◌≢◌, List, [], ◌∷◌, Bool, true, false, refl, sym, inl, inr, ◌∙◌}
use Rattle.std.specs.Prelude.{codes, ℕ}
use Rattle.gq_text.specs.declared.place.Span.{Span}
use Rattle.gq_lex.specs.declared.token.Kind.{Kind}
use Rattle.gq_lex.specs.declared.token.Kind.TheVariants as kind
use Rattle.gq_lex.specs.Tokens.{Lexeme}
use Rattle.gq_tree.specs.Plain.{NameOf, InputOf}
use Rattle.gq_parse.specs.Grammar.{Tokens, IsName, NotNext, IsValueWord, a_name, an_int, list_closed, object_closed, an_argument, no_directive, a_directive, without_null, named_type, a_default, a_variable_definition, closed, another, absent, enclosed, no_alias, a_field, a_spread, no_set, a_set, braces, set_closed, selection, a_query, bare}
use Rattle.gq_parse.specs.declared.expected.Row.{Row}
use Rattle.gq_parse.specs.declared.expected.Row.TheVariants.{Arguments, Variables, ArgumentDefinitions, InputFields, Fields, EnumValues, Roots}
use Rattle.gq_parse.specs.declared.expected.Series.{Series}
use Rattle.gq_parse.specs.declared.expected.Series.TheVariants.{Interfaces, Members, Locations}
use Rattle.gq_parse.specs.declared.expected.Symbol.{Symbol}
use Rattle.gq_parse.specs.declared.expected.Symbol.TheVariants.{AnyName, FragmentName, EnumValueName, OnWord, Colon, AtSign, CloseBracket, Value, MoreValues, MoreObjectFields, Directives, SomeDirectives, OptionalRow, WholeRow, FirstOf, MoreOf, PartsWith, LedSeries, SeriesPart, MoreParts, OptionalDefault, AnyType, OptionalBang, OptionalName, OptionalAlias, Set, OptionalSet, FirstSelection, MoreSelections, AfterDots, Definition, Described, Extension, ExtendedScalar, TypeParts, UnionParts, OptionalImplements, OptionalMembers, OptionalRepeatable}
use Rattle.gq_parse.specs.Helping.Expected.{in_parens, opening, closing}
use Rattle.gq_parse.proofs.Means.{PartOf, IsPart, IsRestOfRow, PieceOf, IsPieceOf, separator, Means, here, spelled_here, name_here, keyword_here}
use Rattle.gq_parse.specs.TypeSystem.{last, Delimited, plain, no_description, a_root, a_schema, IsInputValue, an_input_value, a_field_definition, an_enum_value, interfaces, no_interfaces, members, a_scalar, a_location, once}
use Rattle.gq_parse.specs.Documents.{an_operation}
use Rattle.gq_tree.specs.declared.type_system.DirectiveLocation.TheVariants as location

-- what may stand behind directives and series that end
abbrev pub Clear : Tokens → Type 0
Clear [] = Unit {0}
Clear (t ∷ ts) = (t.kind ≢ kind.At) × (t.kind ≢ kind.Ampersand) × (t.kind ≢ kind.Pipe)

no_at : (x : Tokens) → Clear x → NotNext kind.At x
no_at [] c = tt
no_at (t ∷ ts) c = c.0

no_separator : (s : Series) (x : Tokens) → Clear x → NotNext (separator s) x
no_separator s [] c = tt
no_separator Interfaces (t ∷ ts) c = c.1
no_separator Members (t ∷ ts) c = c.2
no_separator Locations (t ∷ ts) c = c.2

-- some tokens
abbrev tok : Kind → Lexeme
tok k = record { kind = k; text = 97 ∷ []; span = record { start = 0; end = 0 } }

abbrev spells : List ℕ → Lexeme
spells text = record { kind = kind.Name; text = text; span = record { start = 0; end = 0 } }

abbrev a : NameOf Span
a = record { text = 97 ∷ []; place = record { start = 0; end = 0 } }

-- what begins with such a token is clear
clear_name : (x : Tokens) → Clear (tok kind.Name ∷ x)
clear_name x = (λ q. cc, λ q. cc, λ q. cc)

clear_word : (text : List ℕ) (x : Tokens) → Clear (spells text ∷ x)
clear_word text x = (λ q. cc, λ q. cc, λ q. cc)

clear_closing : (b : Bool) (x : Tokens) → Clear (tok (closing b) ∷ x)
clear_closing true x = (λ q. cc, λ q. cc, λ q. cc)
clear_closing false x = (λ q. cc, λ q. cc, λ q. cc)

clear_opening : (b : Bool) (x : Tokens) → Clear (tok (opening b) ∷ x)
clear_opening true x = (λ q. cc, λ q. cc, λ q. cc)
clear_opening false x = (λ q. cc, λ q. cc, λ q. cc)

-- what a symbol can be
pub record Done (s : Symbol) (rest : Tokens) : Type 0 where
  pub tokens : Tokens
  pub means : Means s tokens rest
  pub clear : Clear tokens

type_done : (x : Tokens) → Means AnyType (tok kind.Name ∷ tok kind.Bang ∷ x) x
type_done x = (_, without_null (tok kind.Bang ∷ x) (named_type (name_here refl)) (here refl))

default_done : (x : Tokens) → Means OptionalDefault (tok kind.Equals ∷ tok kind.Int ∷ x) x
default_done x = (_, a_default (tok kind.Int ∷ x) (here refl) (an_int (spelled_here refl)))

no_value_word : IsValueWord (97 ∷ []) → ⊥
no_value_word (inl h) = cc
no_value_word (inr (inl h)) = cc
no_value_word (inr (inr h)) = cc

-- a : Type = 0
abbrev typed : Tokens → Tokens
typed x = tok kind.Colon ∷ tok kind.Name ∷ tok kind.Bang ∷ tok kind.Equals ∷ tok kind.Int ∷ x

input_done : (x : Tokens) → Clear x → (v : InputOf Span) × IsInputValue v (tok kind.Name ∷ typed x) x
input_done x c =
    let t = type_done (tok kind.Equals ∷ tok kind.Int ∷ x) in
    let d = default_done x in
    (_, an_input_value (tok kind.Name ∷ typed x) (typed x) (tok kind.Name ∷ tok kind.Bang ∷ tok kind.Equals ∷ tok kind.Int ∷ x) (tok kind.Equals ∷ tok kind.Int ∷ x) x (no_description (λ q. cc) (λ q. cc)) (name_here refl) (here refl) t.1 d.1 (no_directive (no_at x c)))

-- a part of a row
part_done : (r : Row) (x : Tokens) → Clear x → (tokens : Tokens) × (p : PartOf r) × IsPart r p tokens x × Clear tokens
part_done (Arguments c) x h =
    (tok kind.Name ∷ tok kind.Colon ∷ tok kind.Int ∷ x, _, an_argument (tok kind.Colon ∷ tok kind.Int ∷ x) (tok kind.Int ∷ x) (name_here refl) (here refl) (an_int (spelled_here refl)), clear_name (tok kind.Colon ∷ tok kind.Int ∷ x))
part_done Variables x h =
    let t = type_done (tok kind.Equals ∷ tok kind.Int ∷ x) in
    let d = default_done x in
    (tok kind.Dollar ∷ tok kind.Name ∷ typed x, _, a_variable_definition (tok kind.Name ∷ typed x) (typed x) (tok kind.Name ∷ tok kind.Bang ∷ tok kind.Equals ∷ tok kind.Int ∷ x) (tok kind.Equals ∷ tok kind.Int ∷ x) x (here refl) (name_here refl) (here refl) t.1 d.1 (no_directive (no_at x h)), (λ q. cc, λ q. cc, λ q. cc))
part_done ArgumentDefinitions x h = let i = input_done x h in (tok kind.Name ∷ typed x, i.0, i.1, clear_name (typed x))
part_done InputFields x h = let i = input_done x h in (tok kind.Name ∷ typed x, i.0, i.1, clear_name (typed x))
part_done Fields x h =
    let t = type_done x in
    let y : Tokens = tok kind.Colon ∷ tok kind.Name ∷ tok kind.Bang ∷ x in
    (tok kind.Name ∷ y, _, a_field_definition (tok kind.Name ∷ y) y y (tok kind.Name ∷ tok kind.Bang ∷ x) x (no_description (λ q. cc) (λ q. cc)) (name_here refl) (absent (λ q. cc)) (here refl) t.1 (no_directive (no_at x h)), clear_name y)
part_done EnumValues x h = (tok kind.Name ∷ x, _, an_enum_value (tok kind.Name ∷ x) x (no_description (λ q. cc) (λ q. cc)) (name_here refl) no_value_word (no_directive (no_at x h)), clear_name x)
part_done Roots x h =
    (spells (codes "query") ∷ tok kind.Colon ∷ tok kind.Name ∷ x, _, a_root (tok kind.Colon ∷ tok kind.Name ∷ x) (tok kind.Name ∷ x) (a_query (keyword_here (codes "query") refl refl)) (here refl) (name_here refl), clear_word (codes "query") (tok kind.Colon ∷ tok kind.Name ∷ x))

-- rows
more_done : (r : Row) (x : Tokens) → IsRestOfRow r [] (tok (closing (in_parens r)) ∷ x) x
more_done r x = closed (here refl)

first_done : (r : Row) (x : Tokens) → Done (FirstOf r) x
first_done r x =
    let y : Tokens = tok (closing (in_parens r)) ∷ x in
    let p = part_done r y (clear_closing (in_parens r) x) in
    record { tokens = p.0; means = (p.1, [], another y p.2 (more_done r x)); clear = p.3 }

row_done : (r : Row) (x : Tokens) → Done (WholeRow r) x
row_done r x =
    let f = first_done r x in
    record { tokens = tok (opening (in_parens r)) ∷ f.tokens; means = (f.means.0, f.means.1, enclosed f.tokens (here refl) f.means.2); clear = clear_opening (in_parens r) f.tokens }

-- a directive with an argument
some_directive : (x : Tokens) → Clear x → (tokens : Tokens) × Means SomeDirectives tokens x
some_directive x c =
    let r = row_done (Arguments true) x in
    (tok kind.At ∷ tok kind.Name ∷ r.tokens, (_, _, a_directive (tok kind.Name ∷ r.tokens) r.tokens x (here refl) (name_here refl) r.means.2 (no_directive (no_at x c))))

-- series
piece_done : (s : Series) (x : Tokens) → (t : Lexeme) × (p : PieceOf s) × IsPieceOf s p (t ∷ x) x × (t.kind ≡ kind.Name)
piece_done Interfaces x = (tok kind.Name, _, name_here refl, refl)
piece_done Members x = (tok kind.Name, _, name_here refl, refl)
piece_done Locations x = (spells (codes "QUERY"), location.Query, a_location (keyword_here (codes "QUERY") refl refl), refl)

no_name_separates : (s : Series) → kind.Name ≢ separator s
no_name_separates Interfaces e = cc
no_name_separates Members e = cc
no_name_separates Locations e = cc

series_done : (s : Series) (x : Tokens) → Clear x → Done (SeriesPart s) x
series_done s x c =
    let p = piece_done s x in
    record { tokens = p.0 ∷ x; means = (_, last p.2 (no_separator s x c)); clear = let e = p.3 in (λ q. cc, λ q. cc, λ q. cc) }

led_done : (s : Series) (x : Tokens) → Clear x → Done (LedSeries s) x
led_done s x c =
    let p = piece_done s x in
    record { tokens = p.0 ∷ x; means = (_, plain (λ q. no_name_separates s (sym p.3 ∙ q)) (last p.2 (no_separator s x c))); clear = let e = p.3 in (λ q. cc, λ q. cc, λ q. cc) }

members_done : (x : Tokens) → Clear x → Done OptionalMembers x
members_done x c =
    let l = led_done Members x c in
    record { tokens = tok kind.Equals ∷ l.tokens; means = (_, members l.tokens (here refl) l.means.1); clear = (λ q. cc, λ q. cc, λ q. cc) }

-- selections
first_selection : (x : Tokens) → Means FirstSelection (tok kind.Name ∷ tok kind.BraceClose ∷ x) x
first_selection x =
    let y : Tokens = tok kind.BraceClose ∷ x in
    (_, _, _, selection y (a_field y y y (no_alias (name_here refl) (λ q. cc)) (absent (λ q. cc)) (no_directive (λ q. cc)) (no_set (λ q. cc))) (set_closed (here refl)))

set_done : (x : Tokens) → Means Set (tok kind.BraceOpen ∷ tok kind.Name ∷ tok kind.BraceClose ∷ x) x
set_done x = let f = first_selection x in (_, braces (tok kind.Name ∷ tok kind.BraceClose ∷ x) (here refl) f.3)

abbrev dots : Lexeme
dots = tok kind.Spread

abbrev with : (s : Symbol) (k : Kind) (ts x : Tokens) → Means s (tok k ∷ ts) x → Clear (tok k ∷ ts) → Done s x
with s k ts x m c = record { tokens = tok k ∷ ts; means = m; clear = c }

-- the symbols that begin with what may stand behind directives alone when something stands between
abbrev pub IsSafe : Symbol → Type 0
IsSafe AtSign = ⊥
IsSafe SomeDirectives = ⊥
IsSafe _ = Unit {0}

pub complete : (s : Symbol) (x : Tokens) → Clear x → IsSafe s → Done s x
complete AnyName x c u = with AnyName kind.Name x x (_, name_here refl) (clear_name x)
complete FragmentName x c u = with FragmentName kind.Name x x (a, record { is_name = name_here refl; not_on = λ q. cc }) (clear_name x)
complete EnumValueName x c u = with EnumValueName kind.Name x x (a, name_here refl, no_value_word) (clear_name x)
complete OnWord x c u = record { tokens = spells (codes "on") ∷ x; means = (_, keyword_here (codes "on") refl refl); clear = clear_word (codes "on") x }
complete Colon x c u = with Colon kind.Colon x x (here refl) (λ q. cc, λ q. cc, λ q. cc)
complete AtSign x c u = absurd u
complete CloseBracket x c u = with CloseBracket kind.BracketClose x x (here refl) (λ q. cc, λ q. cc, λ q. cc)
complete (Value b) x c u = with (Value b) kind.Int x x (_, _, an_int (spelled_here refl)) (λ q. cc, λ q. cc, λ q. cc)
complete (MoreValues b) x c u = with (MoreValues b) kind.BracketClose x x (_, list_closed (here refl)) (λ q. cc, λ q. cc, λ q. cc)
complete (MoreObjectFields b) x c u = with (MoreObjectFields b) kind.BraceClose x x (_, object_closed (here refl)) (λ q. cc, λ q. cc, λ q. cc)
complete (Directives b) x c u = record { tokens = x; means = ([], no_directive (no_at x c)); clear = c }
complete SomeDirectives x c u = absurd u
complete (OptionalRow r) x c u = let f = row_done r x in record { tokens = f.tokens; means = (f.means.0 ∷ f.means.1, f.means.2); clear = f.clear }
complete (WholeRow r) x c u = row_done r x
complete (FirstOf r) x c u = first_done r x
complete (MoreOf r) x c u = record { tokens = tok (closing (in_parens r)) ∷ x; means = ([], more_done r x); clear = clear_closing (in_parens r) x }
complete (PartsWith r) x c u =
    let f = row_done r x in
    record { tokens = f.tokens; means = ([], f.means.0 ∷ f.means.1, f.tokens, no_directive (no_at f.tokens f.clear), f.means.2, inr (λ q. cc)); clear = f.clear }
complete (LedSeries s) x c u = led_done s x c
complete (SeriesPart s) x c u = series_done s x c
complete (MoreParts s) x c u = record { tokens = x; means = inl (no_separator s x c, refl); clear = c }
complete OptionalDefault x c u = with OptionalDefault kind.Equals (tok kind.Int ∷ x) x (default_done x) (λ q. cc, λ q. cc, λ q. cc)
complete AnyType x c u = with AnyType kind.Name (tok kind.Bang ∷ x) x (type_done x) (clear_name (tok kind.Bang ∷ x))
complete OptionalBang x c u = with OptionalBang kind.Bang x x (inr (here refl)) (λ q. cc, λ q. cc, λ q. cc)
complete OptionalName x c u = with OptionalName kind.Name x x (_, a_name (name_here refl)) (clear_name x)
complete OptionalAlias x c u = with OptionalAlias kind.Colon (tok kind.Name ∷ x) x (inr (tok kind.Name ∷ x, _, here refl, name_here refl)) (λ q. cc, λ q. cc, λ q. cc)
complete Set x c u = with Set kind.BraceOpen (tok kind.Name ∷ tok kind.BraceClose ∷ x) x (set_done x) (λ q. cc, λ q. cc, λ q. cc)
complete OptionalSet x c u = let s = set_done x in with OptionalSet kind.BraceOpen (tok kind.Name ∷ tok kind.BraceClose ∷ x) x (_, s.0, a_set s.1) (λ q. cc, λ q. cc, λ q. cc)
complete FirstSelection x c u = with FirstSelection kind.Name (tok kind.BraceClose ∷ x) x (first_selection x) (clear_name (tok kind.BraceClose ∷ x))
complete MoreSelections x c u = with MoreSelections kind.BraceClose x x (_, set_closed (here refl)) (λ q. cc, λ q. cc, λ q. cc)
complete AfterDots x c u =
    with AfterDots kind.Name x x (dots ∷ tok kind.Name ∷ x, _, _, a_spread {name = a} (tok kind.Name ∷ x) x (here refl) (record { is_name = name_here refl; not_on = λ q. cc }) (no_directive (no_at x c)), here refl) (clear_name x)
complete Definition x c u =
    let s = set_done x in
    with Definition kind.BraceOpen (tok kind.Name ∷ tok kind.BraceClose ∷ x) x (_, an_operation (bare s.1)) (λ q. cc, λ q. cc, λ q. cc)
complete Described x c u =
    record { tokens = spells (codes "scalar") ∷ tok kind.Name ∷ x; means = inr (inl (_, _, _, a_scalar (tok kind.Name ∷ x) x (keyword_here (codes "scalar") refl refl) (name_here refl) (no_directive (no_at x c)))); clear = clear_word (codes "scalar") (tok kind.Name ∷ x) }
complete Extension x c u =
    let f = row_done Roots x in
    record { tokens = spells (codes "schema") ∷ f.tokens; means = inl (_, _, a_schema f.tokens f.tokens (keyword_here (codes "schema") refl refl) (no_directive (no_at f.tokens f.clear)) f.means.2, inr (λ q. cc)); clear = clear_word (codes "schema") f.tokens }
complete ExtendedScalar x c u =
    let d = some_directive x c in
    with ExtendedScalar kind.Name d.0 x (_, d.1.0, d.1.1, d.0, name_here refl, d.1.2) (clear_name d.0)
complete TypeParts x c u =
    let f = first_done Fields x in
    let y : Tokens = tok kind.BraceOpen ∷ f.tokens in
    with TypeParts kind.BraceOpen f.tokens x ([], [], f.means.0 ∷ f.means.1, y, y, no_interfaces (λ p q. cc), no_directive (λ q. cc), enclosed f.tokens (here refl) f.means.2, inr (inr (λ q. cc))) (λ q. cc, λ q. cc, λ q. cc)
complete UnionParts x c u =
    let p = piece_done Members x in
    let l : Delimited IsName kind.Pipe (p.1 ∷ []) (p.0 ∷ x) x = plain (λ q. no_name_separates Members (sym p.3 ∙ q)) (last p.2 (no_separator Members x c)) in
    with UnionParts kind.Equals (p.0 ∷ x) x ([], p.1 ∷ [], tok kind.Equals ∷ p.0 ∷ x, no_directive (λ q. cc), members (p.0 ∷ x) (here refl) l, inr (λ q. cc)) (λ q. cc, λ q. cc, λ q. cc)
complete OptionalImplements x c u =
    let l = led_done Interfaces x c in
    record { tokens = spells (codes "implements") ∷ l.tokens; means = (_, interfaces l.tokens (keyword_here (codes "implements") refl refl) l.means.1); clear = clear_word (codes "implements") l.tokens }
complete OptionalMembers x c u = members_done x c
complete OptionalRepeatable x c u = record { tokens = spells (codes "on") ∷ x; means = (_, once (keyword_here (codes "on") refl refl)); clear = clear_word (codes "on") x }

-- a symbol of whatever kind, where it is the next one
pub complete_any : (s : Symbol) (x : Tokens) → Clear x → (tokens : Tokens) × Means s tokens x
complete_any AtSign x c = (tok kind.At ∷ x, here refl)
complete_any SomeDirectives x c = some_directive x c
complete_any s x c = let d = complete s x c tt in (d.tokens, d.means)

-- What a move puts below the top of the stack can be completed before whatever is below.
use Rattle.std.proofs.Common.{◌≡◌, Bool, true, false, refl, cond}
use Rattle.gq_lex.specs.declared.token.Kind.{Kind}
use Rattle.gq_lex.specs.declared.token.Kind.TheVariants as kind
use Rattle.gq_parse.specs.declared.expected.Word.{Word}
use Rattle.gq_parse.specs.declared.expected.Word.TheVariants as word
use Rattle.gq_parse.specs.declared.expected.Row.{Row}
use Rattle.gq_parse.specs.declared.expected.Row.TheVariants.{Arguments, Variables, ArgumentDefinitions, InputFields, Fields, EnumValues, Roots}
use Rattle.gq_parse.specs.declared.expected.Series.{Series}
use Rattle.gq_parse.specs.declared.expected.Series.TheVariants.{Interfaces, Members, Locations}
use Rattle.gq_parse.specs.declared.expected.Symbol.{Symbol}
use Rattle.gq_parse.specs.declared.expected.Symbol.TheVariants.{AnyName, FragmentName, EnumValueName, OnWord, Colon, AtSign, CloseBracket, Value, MoreValues, MoreObjectFields, Directives, SomeDirectives, OptionalRow, WholeRow, FirstOf, MoreOf, PartsWith, LedSeries, SeriesPart, MoreParts, OptionalDefault, AnyType, OptionalBang, OptionalName, OptionalAlias, Set, OptionalSet, FirstSelection, MoreSelections, AfterDots, Definition, Described, Extension, ExtendedScalar, TypeParts, UnionParts, OptionalImplements, OptionalMembers, OptionalRepeatable}
use Rattle.gq_parse.specs.declared.expected.Move.{Move}
use Rattle.gq_parse.specs.declared.expected.Move.TheVariants.{Takes, TakesThen, TakesThenTwo, TakesThenThree, TakesThenFour, TakesThenFive, TakesThenSix, Skips, Stops}
use Rattle.gq_parse.specs.Helping.Expected.{behind, move, name_move, on_word_move, not_on_move, colon_move, at_move, bracket_move, value_move, values_move, object_fields_move, default_move, directives_move, type_move, bang_move, optional_name_move, alias_move, set_move, selection_move, selections_move, dots_word_move, dots_move, argument_move, variable_move, input_move, field_move, value_word_stops, enum_value_move, root_word_move, part_move, in_parens, opens, closes, row_move, more_move, parts_move, some_directives_move, separates, location_move, series_word_move, separator_move, implements_move, optional_implements_move, members_move, repeatable_move, type_parts_move, described_move, extension_move, definition_word_move, definition_move}
use Rattle.std.specs.Prelude.{◌&&◌}
use Rattle.gq_parse.proofs.Completions.{IsSafe}

-- what a move puts below the top of the stack is safe
abbrev pub safe : Symbol → Bool
safe AtSign = false
safe SomeDirectives = false
safe _ = true

abbrev pub safe_tail : Move → Bool
safe_tail (TakesThenTwo a b) = safe b
safe_tail (TakesThenThree a b c) = safe b && safe c
safe_tail (TakesThenFour a b c d) = safe b && (safe c && safe d)
safe_tail (TakesThenFive a b c d e) = safe b && (safe c && (safe d && safe e))
safe_tail (TakesThenSix a b c d e f) = safe b && (safe c && (safe d && (safe e && safe f)))
safe_tail _ = true

pub is_safe : (s : Symbol) → safe s ≡ true → IsSafe s
is_safe AtSign e = absurd (cc)
is_safe SomeDirectives e = absurd (cc)
is_safe _ e = tt

by_name : (k : Kind) (m : Move) → safe_tail m ≡ true → safe_tail (name_move k m) ≡ true
by_name kind.Name m e = e
by_name _ m e = refl

by_bool : (b : Bool) (m n : Move) → safe_tail m ≡ true → safe_tail n ≡ true → safe_tail (cond b m n) ≡ true
by_bool true m n e f = e
by_bool false m n e f = f

of_not_on : (w : Word) → safe_tail ((λ (v : Word). not_on_move v Takes) w) ≡ true
of_not_on word.On = refl
of_not_on _ = refl

of_value_word : (w : Word) → safe_tail ((λ (v : Word). value_word_stops v Takes) w) ≡ true
of_value_word word.True = refl
of_value_word _ = refl

of_value_word_directives : (w : Word) → safe_tail ((λ (v : Word). value_word_stops v (TakesThen (Directives true))) w) ≡ true
of_value_word_directives word.True = refl
of_value_word_directives _ = refl

of_on : (w : Word) → safe_tail (on_word_move w) ≡ true
of_on word.On = refl
of_on _ = refl

of_colon : (k : Kind) → safe_tail (colon_move k) ≡ true
of_colon kind.Colon = refl
of_colon _ = refl

of_at : (k : Kind) → safe_tail (at_move k) ≡ true
of_at kind.At = refl
of_at _ = refl

of_bracket : (k : Kind) → safe_tail (bracket_move k) ≡ true
of_bracket kind.BracketClose = refl
of_bracket _ = refl

of_value : (c : Bool) (k : Kind) → safe_tail (value_move c k) ≡ true
of_value true kind.Dollar = refl
of_value false kind.Dollar = refl
of_value c _ = refl

of_values : (c : Bool) (k : Kind) → safe_tail (values_move c k) ≡ true
of_values true kind.Dollar = refl
of_values false kind.Dollar = refl
of_values c _ = refl

of_object_fields : (c : Bool) (k : Kind) → safe_tail (object_fields_move c k) ≡ true
of_object_fields c kind.Name = refl
of_object_fields c _ = refl

of_default : (k : Kind) → safe_tail (default_move k) ≡ true
of_default kind.Equals = refl
of_default _ = refl

of_directives : (c : Bool) (k : Kind) → safe_tail (directives_move c k) ≡ true
of_directives c kind.At = refl
of_directives c _ = refl

of_some_directives : (k : Kind) → safe_tail (some_directives_move k) ≡ true
of_some_directives kind.At = refl
of_some_directives _ = refl

of_type : (k : Kind) → safe_tail (type_move k) ≡ true
of_type kind.Name = refl
of_type _ = refl

of_bang : (k : Kind) → safe_tail (bang_move k) ≡ true
of_bang kind.Bang = refl
of_bang _ = refl

of_optional_name : (k : Kind) → safe_tail (optional_name_move k) ≡ true
of_optional_name kind.Name = refl
of_optional_name _ = refl

of_alias : (k : Kind) → safe_tail (alias_move k) ≡ true
of_alias kind.Colon = refl
of_alias _ = refl

of_set : (k : Kind) → safe_tail ((λ (x : Kind). set_move x Stops) k) ≡ true
of_set kind.BraceOpen = refl
of_set _ = refl

of_optional_set : (k : Kind) → safe_tail ((λ (x : Kind). set_move x Skips) k) ≡ true
of_optional_set kind.BraceOpen = refl
of_optional_set _ = refl

of_first_selection : (k : Kind) → safe_tail ((λ (x : Kind). behind (selection_move x) MoreSelections) k) ≡ true
of_first_selection kind.Name = refl
of_first_selection _ = refl

of_selections : (k : Kind) → safe_tail (selections_move k) ≡ true
of_selections kind.Name = refl
of_selections _ = refl

of_dots_word : (w : Word) → safe_tail (dots_word_move w) ≡ true
of_dots_word word.On = refl
of_dots_word _ = refl

of_dots : (k : Kind) (w : Word) → safe_tail (dots_move k w) ≡ true
of_dots kind.Name w = of_dots_word w
of_dots _ w = refl

of_root_word : (r : Row) (w : Word) → safe_tail ((λ (q : Row) (v : Word). behind (root_word_move v) (MoreOf q)) r w) ≡ true
of_root_word r word.Query = refl
of_root_word r _ = refl

of_enum_word : (w : Word) → safe_tail ((λ (v : Word). behind (value_word_stops v (TakesThen (Directives true))) (MoreOf EnumValues)) w) ≡ true
of_enum_word word.True = refl
of_enum_word _ = refl

of_argument : (c : Bool) (k : Kind) → safe_tail ((λ (b : Bool) (x : Kind). behind (argument_move b x) (MoreOf (Arguments b))) c k) ≡ true
of_argument c kind.Name = refl
of_argument c _ = refl

of_variable : (k : Kind) → safe_tail ((λ (x : Kind). behind (variable_move x) (MoreOf Variables)) k) ≡ true
of_variable kind.Name = refl
of_variable _ = refl

of_input : (r : Row) (k : Kind) → safe_tail ((λ (q : Row) (x : Kind). behind (input_move x) (MoreOf q)) r k) ≡ true
of_input r kind.Name = refl
of_input r _ = refl

of_field : (k : Kind) → safe_tail ((λ (x : Kind). behind (field_move x) (MoreOf Fields)) k) ≡ true
of_field kind.Name = refl
of_field _ = refl

of_root : (k : Kind) (w : Word) → safe_tail (behind (name_move k (root_word_move w)) (MoreOf Roots)) ≡ true
of_root kind.Name w = of_root_word Roots w
of_root _ w = refl

of_enum_value : (k : Kind) (w : Word) → safe_tail (behind (enum_value_move k w) (MoreOf EnumValues)) ≡ true
of_enum_value kind.Name w = of_enum_word w
of_enum_value _ w = refl

of_first : (r : Row) (k : Kind) (w : Word) → safe_tail (behind (part_move r k w) (MoreOf r)) ≡ true
of_first (Arguments c) k w = of_argument c k
of_first Variables k w = of_variable k
of_first ArgumentDefinitions k w = of_input ArgumentDefinitions k
of_first InputFields k w = of_input InputFields k
of_first Fields k w = of_field k
of_first EnumValues k w = of_enum_value k w
of_first Roots k w = of_root k w

of_row : (r : Row) (k : Kind) (m : Move) → safe_tail m ≡ true → safe_tail (row_move r k m) ≡ true
of_row r k m e = by_bool (opens (in_parens r) k) (TakesThen (FirstOf r)) m refl e

of_more : (r : Row) (k : Kind) (w : Word) → safe_tail (more_move r k w) ≡ true
of_more r k w = by_bool (closes (in_parens r) k) Takes (behind (part_move r k w) (MoreOf r)) refl (of_first r k w)

of_parts : (k : Kind) (s : Symbol) (m : Move) → safe s ≡ true → safe_tail m ≡ true → safe_tail (parts_move k s m) ≡ true
of_parts kind.At s m e f = e
of_parts _ s m e f = f

of_location : (w : Word) → safe_tail (location_move w) ≡ true
of_location word.Location = refl
of_location _ = refl

of_series_word : (s : Series) (w : Word) → safe_tail (series_word_move s w) ≡ true
of_series_word Interfaces w = refl
of_series_word Members w = refl
of_series_word Locations w = of_location w

of_separator : (s : Series) (k : Kind) (m : Move) → safe_tail m ≡ true → safe_tail (separator_move s k m) ≡ true
of_separator s k m e = by_bool (separates s k) (TakesThen (SeriesPart s)) m refl e

of_implements : (w : Word) (m n : Move) → safe_tail m ≡ true → safe_tail n ≡ true → safe_tail (implements_move w m n) ≡ true
of_implements word.Implements m n e f = e
of_implements _ m n e f = f

of_optional_implements : (k : Kind) (w : Word) → safe_tail (optional_implements_move k w) ≡ true
of_optional_implements kind.Name w = of_implements w (TakesThen (LedSeries Interfaces)) Skips refl refl
of_optional_implements _ w = refl

of_members : (k : Kind) (m : Move) → safe_tail m ≡ true → safe_tail (members_move k m) ≡ true
of_members kind.Equals m e = refl
of_members _ m e = e

of_repeatable : (w : Word) → safe_tail (repeatable_move w) ≡ true
of_repeatable word.On = refl
of_repeatable _ = refl

of_described : (w : Word) → safe_tail (described_move w) ≡ true
of_described word.Schema = refl
of_described _ = refl

of_extension : (w : Word) → safe_tail (extension_move w) ≡ true
of_extension word.Schema = refl
of_extension _ = refl

of_definition_word : (w : Word) → safe_tail (definition_word_move w) ≡ true
of_definition_word word.Schema = refl
of_definition_word _ = refl

of_definition : (k : Kind) (w : Word) → safe_tail (definition_move k w) ≡ true
of_definition kind.Name w = of_definition_word w
of_definition _ w = refl

of_type_parts : (k : Kind) (w : Word) → safe_tail (parts_move k (OptionalRow Fields) (row_move Fields k Stops)) ≡ true → safe_tail (type_parts_move k w) ≡ true
of_type_parts kind.Name w e = of_implements w (TakesThenThree (LedSeries Interfaces) (Directives true) (OptionalRow Fields)) Stops refl refl
of_type_parts _ w e = e

pub tail_is_safe : (s : Symbol) (k : Kind) (w : Word) → safe_tail (move s k w) ≡ true
tail_is_safe AnyName k w = by_name k Takes refl
tail_is_safe FragmentName k w = by_name k (not_on_move w Takes) (of_not_on w)
tail_is_safe EnumValueName k w = by_name k (value_word_stops w Takes) (of_value_word w)
tail_is_safe OnWord k w = by_name k (on_word_move w) (of_on w)
tail_is_safe Colon k w = of_colon k
tail_is_safe AtSign k w = of_at k
tail_is_safe CloseBracket k w = of_bracket k
tail_is_safe (Value c) k w = of_value c k
tail_is_safe (MoreValues c) k w = of_values c k
tail_is_safe (MoreObjectFields c) k w = of_object_fields c k
tail_is_safe (Directives c) k w = of_directives c k
tail_is_safe SomeDirectives k w = of_some_directives k
tail_is_safe (OptionalRow r) k w = of_row r k Skips refl
tail_is_safe (WholeRow r) k w = of_row r k Stops refl
tail_is_safe (FirstOf r) k w = of_first r k w
tail_is_safe (MoreOf r) k w = of_more r k w
tail_is_safe (PartsWith r) k w = of_parts k (OptionalRow r) (row_move r k Stops) refl (of_row r k Stops refl)
tail_is_safe (LedSeries s) k w = of_separator s k (name_move k (series_word_move s w)) (by_name k (series_word_move s w) (of_series_word s w))
tail_is_safe (SeriesPart s) k w = by_name k (series_word_move s w) (of_series_word s w)
tail_is_safe (MoreParts s) k w = of_separator s k Skips refl
tail_is_safe OptionalDefault k w = of_default k
tail_is_safe AnyType k w = of_type k
tail_is_safe OptionalBang k w = of_bang k
tail_is_safe OptionalName k w = of_optional_name k
tail_is_safe OptionalAlias k w = of_alias k
tail_is_safe Set k w = of_set k
tail_is_safe OptionalSet k w = of_optional_set k
tail_is_safe FirstSelection k w = of_first_selection k
tail_is_safe MoreSelections k w = of_selections k
tail_is_safe AfterDots k w = of_dots k w
tail_is_safe Definition k w = of_definition k w
tail_is_safe Described k w = by_name k (described_move w) (of_described w)
tail_is_safe Extension k w = by_name k (extension_move w) (of_extension w)
tail_is_safe ExtendedScalar k w = by_name k (TakesThen SomeDirectives) refl
tail_is_safe TypeParts k w = of_type_parts k w (of_parts k (OptionalRow Fields) (row_move Fields k Stops) refl (of_row Fields k Stops refl))
tail_is_safe UnionParts k w = of_parts k OptionalMembers (members_move k Stops) refl (of_members k Stops refl)
tail_is_safe OptionalImplements k w = of_optional_implements k w
tail_is_safe OptionalMembers k w = of_members k Skips refl
tail_is_safe OptionalRepeatable k w = by_name k (repeatable_move w) (of_repeatable w)

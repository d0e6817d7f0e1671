-- Every symbol's move is right.
use Rattle.std.proofs.Common.{◌∷◌, refl}
use Rattle.gq_lex.specs.Tokens.{Lexeme}
use Rattle.gq_parse.specs.Grammar.{Tokens}
use Rattle.gq_parse.specs.declared.expected.Row.TheVariants.{Fields}
use Rattle.gq_parse.specs.declared.expected.Symbol.{Symbol}
use Rattle.gq_parse.specs.declared.expected.Symbol.TheVariants.{AnyName, FragmentName, EnumValueName, OnWord, Colon, AtSign, CloseBracket, Value, MoreValues, MoreObjectFields, Directives, SomeDirectives, OptionalRow, WholeRow, FirstOf, MoreOf, PartsWith, LedSeries, SeriesPart, MoreParts, OptionalDefault, AnyType, OptionalBang, OptionalName, OptionalAlias, Set, OptionalSet, FirstSelection, MoreSelections, AfterDots, Definition, Described, Extension, ExtendedScalar, TypeParts, UnionParts, OptionalImplements, OptionalMembers, OptionalRepeatable}
use Rattle.gq_parse.proofs.Means.{Means, Next}
use Rattle.gq_parse.proofs.NextNames.{forth_name, back_name, forth_colon, back_colon, forth_at, back_at, forth_bracket, back_bracket, forth_bang, back_bang, forth_type, back_type, forth_optional_name, back_optional_name, forth_alias, back_alias, forth_directives, back_directives, forth_some_directives, back_some_directives, forth_default, back_default}
use Rattle.gq_parse.proofs.NextWords.{forth_fragment_name, back_fragment_name, forth_enum_value_name, back_enum_value_name, forth_on, back_on}
use Rattle.gq_parse.proofs.NextValues.{forth_value, back_value, forth_more_values, back_more_values, forth_more_object_fields, back_more_object_fields}
use Rattle.gq_parse.proofs.NextRows.{forth_first, back_first, forth_more, back_more, forth_optional_row, back_optional_row, forth_whole_row, back_whole_row, forth_parts, back_parts_with}
use Rattle.gq_parse.proofs.NextSelections.{forth_set, back_set, forth_optional_set, back_optional_set, forth_first_selection, back_first_selection, forth_more_selections, back_more_selections, forth_after_dots, back_after_dots}
use Rattle.gq_parse.proofs.NextSeries.{forth_series_part, back_series_part, forth_more_parts, back_more_parts, forth_led, back_led}
use Rattle.gq_parse.proofs.NextTypeParts.{forth_implements, back_implements, forth_members, back_members, forth_union_parts, back_union_parts, forth_type_parts, back_type_parts, forth_repeatable, back_repeatable}
use Rattle.gq_parse.proofs.NextDefinitions.{forth_described, back_described, forth_extended_scalar, back_extended_scalar, forth_extension, back_extension, forth_definition, back_definition}

-- What a symbol stands for is what its move leaves, behind the token.
pub goes_on : (s : Symbol) (t : Lexeme) (ts y : Tokens) → Means s (t ∷ ts) y → Next s t ts y
goes_on AnyName t ts y h = forth_name t ts y h
goes_on FragmentName t ts y h = forth_fragment_name t ts y h
goes_on EnumValueName t ts y h = forth_enum_value_name t ts y h
goes_on OnWord t ts y h = forth_on t ts y h
goes_on Colon t ts y h = forth_colon t ts y h
goes_on AtSign t ts y h = forth_at t ts y h
goes_on CloseBracket t ts y h = forth_bracket t ts y h
goes_on (Value c) t ts y h = forth_value c t ts y h
goes_on (MoreValues c) t ts y h = forth_more_values c t ts y h
goes_on (MoreObjectFields c) t ts y h = forth_more_object_fields c t ts y h
goes_on (Directives c) t ts y h = forth_directives c t ts y h
goes_on SomeDirectives t ts y h = forth_some_directives t ts y h
goes_on (OptionalRow r) t ts y h = forth_optional_row r t ts y h
goes_on (WholeRow r) t ts y h = forth_whole_row r t ts y h
goes_on (FirstOf r) t ts y h = forth_first r t ts y h
goes_on (MoreOf r) t ts y h = forth_more r t ts y h
goes_on (PartsWith r) t ts y h = forth_parts r t ts y h
goes_on (LedSeries s) t ts y h = forth_led s t ts y h
goes_on (SeriesPart s) t ts y h = forth_series_part s t ts y h
goes_on (MoreParts s) t ts y h = forth_more_parts s t ts y h
goes_on OptionalDefault t ts y h = forth_default t ts y h
goes_on AnyType t ts y h = forth_type t ts y h
goes_on OptionalBang t ts y h = forth_bang t ts y h
goes_on OptionalName t ts y h = forth_optional_name t ts y h
goes_on OptionalAlias t ts y h = forth_alias t ts y h
goes_on Set t ts y h = forth_set t ts y h
goes_on OptionalSet t ts y h = forth_optional_set t ts y h
goes_on FirstSelection t ts y h = forth_first_selection t ts y h
goes_on MoreSelections t ts y h = forth_more_selections t ts y h
goes_on AfterDots t ts y h = forth_after_dots t ts y h
goes_on Definition t ts y h = forth_definition t ts y h
goes_on Described t ts y h = forth_described t ts y h
goes_on Extension t ts y h = forth_extension t ts y h
goes_on ExtendedScalar t ts y h = forth_extended_scalar t ts y h
goes_on TypeParts t ts y h = forth_type_parts t ts y h
goes_on UnionParts t ts y h = forth_union_parts t ts y h
goes_on OptionalImplements t ts y h = forth_implements t ts y h
goes_on OptionalMembers t ts y h = forth_members t ts y h
goes_on OptionalRepeatable t ts y h = forth_repeatable t ts y h

-- and the other way round
pub comes_from : (s : Symbol) (t : Lexeme) (ts y : Tokens) → Next s t ts y → Means s (t ∷ ts) y
comes_from AnyName t ts y h = back_name t ts y t.kind refl h
comes_from FragmentName t ts y h = back_fragment_name t ts y t.kind refl h
comes_from EnumValueName t ts y h = back_enum_value_name t ts y t.kind refl h
comes_from OnWord t ts y h = back_on t ts y t.kind refl h
comes_from Colon t ts y h = back_colon t ts y t.kind refl h
comes_from AtSign t ts y h = back_at t ts y t.kind refl h
comes_from CloseBracket t ts y h = back_bracket t ts y t.kind refl h
comes_from (Value c) t ts y h = back_value c t ts y t.kind refl h
comes_from (MoreValues c) t ts y h = back_more_values c t ts y t.kind refl h
comes_from (MoreObjectFields c) t ts y h = back_more_object_fields c t ts y t.kind refl h
comes_from (Directives c) t ts y h = back_directives c t ts y t.kind refl h
comes_from SomeDirectives t ts y h = back_some_directives t ts y t.kind refl h
comes_from (OptionalRow r) t ts y h = back_optional_row r t ts y h
comes_from (WholeRow r) t ts y h = back_whole_row r t ts y h
comes_from (FirstOf r) t ts y h = back_first r t ts y h
comes_from (MoreOf r) t ts y h = back_more r t ts y h
comes_from (PartsWith r) t ts y h = back_parts_with r t ts y h
comes_from (LedSeries s) t ts y h = back_led s t ts y h
comes_from (SeriesPart s) t ts y h = back_series_part s t ts y h
comes_from (MoreParts s) t ts y h = back_more_parts s t ts y h
comes_from OptionalDefault t ts y h = back_default t ts y t.kind refl h
comes_from AnyType t ts y h = back_type t ts y t.kind refl h
comes_from OptionalBang t ts y h = back_bang t ts y t.kind refl h
comes_from OptionalName t ts y h = back_optional_name t ts y t.kind refl h
comes_from OptionalAlias t ts y h = back_alias t ts y t.kind refl h
comes_from Set t ts y h = back_set t ts y t.kind refl h
comes_from OptionalSet t ts y h = back_optional_set t ts y t.kind refl h
comes_from FirstSelection t ts y h = back_first_selection t ts y h
comes_from MoreSelections t ts y h = back_more_selections t ts y t.kind refl (back_first_selection t ts y) h
comes_from AfterDots t ts y h = back_after_dots t ts y t.kind refl h
comes_from Definition t ts y h = back_definition t ts y t.kind refl h
comes_from Described t ts y h = back_described t ts y t.kind refl h
comes_from Extension t ts y h = back_extension t ts y t.kind refl h
comes_from ExtendedScalar t ts y h = back_extended_scalar t ts y t.kind refl h
comes_from TypeParts t ts y h = back_type_parts t ts y t.kind refl (back_parts_with Fields t ts y) h
comes_from UnionParts t ts y h = back_union_parts t ts y t.kind refl h
comes_from OptionalImplements t ts y h = back_implements t ts y t.kind refl h
comes_from OptionalMembers t ts y h = back_members t ts y t.kind refl h
comes_from OptionalRepeatable t ts y h = back_repeatable t ts y t.kind refl h

-- Parts of definitions, by the names that contracts of the code give them.
use Rattle.std.specs.Prelude.{List, [], ◌++◌, Option, Some}
use Rattle.std.specs.Option.{option_map, option_map_or}
use Rattle.gq_text.specs.declared.place.Span.{Span}
use Rattle.gq_tree.specs.Plain.{Val, TypeOf, no_place, place_value}
use Rattle.gq_meaning.specs.Values.{Value}
use Rattle.gq_coerce.specs.Coerced.{Coerced, absent, or_missing, item_before}
use Rattle.gq_coerce.specs.Variables.{input_value}
use Rattle.gq_coerce.specs.Literals.{Setting, ReadAt, read_at, read_all, literal_value}

-- a literal read as said
abbrev pub read_value : Setting → ReadAt → Val (Unit {0}) → Coerced
read_value s r v = read_at s r v.label.says (read_all s v.below)

-- the literal that is given for an input, at a type
abbrev pub given_literal : Setting → TypeOf Span → Option (Val Span) → Coerced
given_literal s t o = option_map_or (λ v. literal_value s t (place_value no_place v)) o absent

-- an item put behind others
abbrev pub item_after : List Value → (missing is : Coerced) → Option (List Value)
item_after items missing is = option_map (λ more. items ++ more) (item_before (or_missing missing is) (Some []))

-- the value that is given for an input, at a type
abbrev pub given_raw : Setting → TypeOf Span → Option Value → Coerced
given_raw s t o = option_map_or (input_value s t) o absent

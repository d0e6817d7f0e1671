-- What the code's values stand for.
use Rattle.std.specs.Prelude.{ℕ, List, Option, Some, None, map, find}
use Rattle.std.specs.Borrow.{Bor}
use Rattle.std.specs.Option.{option_map, option_map_or}
use Rattle.std.specs.Str.{bytes_eq}
use Rattle.gq_text.specs.declared.place.Span.{Span}
use Rattle.gq_tree.specs.Plain.{Val, TypeOf, InputOf, no_place, place_value, under}
use Rattle.gq_tree.specs.Views.{value_view, type_view, input_view}
use Rattle.gq_tree.specs.declared.value.Value.{Value}
use Rattle.gq_tree.specs.declared.types.TypeRef.{TypeRef}
use Rattle.gq_tree.specs.declared.type_system.InputValueDefinition.{InputValueDefinition}
use Rattle.gq_meaning.specs.Values as given
use Rattle.gq_meaning.specs.Values.{Values}
use Rattle.gq_table.specs.declared.values.Value.{Value as Given}
use Rattle.gq_table.specs.Views as table
use Rattle.gq_coerce.specs.declared.coerced.Coerced.{Coerced}
use Rattle.gq_coerce.specs.declared.coerced.Coerced.TheVariants as code
use Rattle.gq_coerce.specs.declared.parts.Part.{Part}
use Rattle.gq_coerce.specs.Coerced as coerced
use Rattle.gq_coerce.specs.Literals as literals
use Rattle.gq_coerce.specs.Literals.{default_within}
use Rattle.gq_coerce.specs.declared.setting.Setting.{Setting}
use Rattle.gq_table.specs.declared.values.Entry.{Entry}
use Rattle.gq_types.specs.Look.{types_view}
use Rattle.gq_tree.specs.Forest.{none}

abbrev pub coerced_view : Coerced → coerced.Coerced
coerced_view code.Absent = coerced.absent
coerced_view code.Fault = coerced.fault
coerced_view (code.Given v) = coerced.given (table.value_view v)

-- a literal without places, and the same under a name
abbrev pub bare : Value → Val (Unit {0})
bare v = place_value no_place (value_view v)

abbrev pub part_view : Part → Val (Unit {0})
part_view p = under (record { text = p.name.now; place = tt }) (bare p.value.now)

abbrev pub value_seen : Option (Bor Value) → Option (Val Span)
value_seen o = option_map (λ v. value_view v.now) o

abbrev pub inputs_view : List (Bor InputValueDefinition) → List (InputOf Span)
inputs_view is = map (λ i. input_view i.now) is

-- the values of variables, if there are any
abbrev pub variables_in : Option (Bor (List Entry)) → Values
variables_in o = option_map_or (λ v. table.entries_view v.now) o none

abbrev pub setting_view : Setting → literals.Setting
setting_view s = record { entries = types_view s.types.now; variables = variables_in s.variables; default = default_within s.limit (types_view s.types.now) }

abbrev pub type_seen : Option (Bor TypeRef) → Option (TypeOf Span)
type_seen o = option_map (λ t. type_view t.now) o

abbrev pub raw_seen : Option (Bor Given) → Option given.Value
raw_seen o = option_map (λ v. table.value_view v.now) o

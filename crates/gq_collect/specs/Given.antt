-- What a response depends on beside the selections: a type system, a table, and the values of variables.
use Rattle.std.specs.Prelude.{ℕ, List, [], Option, Some, None, codes, option_and_then, if◌then◌else◌}
use Rattle.std.specs.Option.{option_map}
use Rattle.std.specs.Str.{bytes_eq}
use Rattle.gq_tree.specs.Forest.{none}
use Rattle.gq_tree.specs.Plain.{named, non_null}
use Rattle.gq_types.specs.Entries.{EntryOf}
use Rattle.gq_types.specs.Names.{field_named}
use Rattle.gq_types.specs.SubtypesTests.{is_possible}
use Rattle.gq_table.specs.Rows.{RowOf, row_of}
use Rattle.gq_meaning.specs.Values.{Text, Values, text}
use Rattle.gq_meaning.specs.Results as result
use Rattle.gq_meaning.specs.Results.{Answer, Call}
use Rattle.gq_meaning.specs.Selected.{Arguments}
use Rattle.gq_meaning.specs.Directives.{takes_with}
use Rattle.gq_meaning.specs.Response.{FieldType, Given}
use Rattle.gq_coerce.specs.Literals.{coerced_arguments}
use Rattle.gq_coerce.specs.Leaves.{leaf_at, is_composite_type}

-- `__typename` is a field of every object, of the type `String!` (section 4.4)
abbrev pub typename : Text
typename = codes "__typename"

abbrev pub typename_type : FieldType
typename_type = non_null (named (record { text = codes "String"; place = record { start = 0; end = 0 } }))

-- the call of a resolver that a field makes; none where its arguments are at fault
abbrev pub call_of : List EntryOf → Values → (object : Text) → ℕ → (field : Text) → Arguments → Option Call
call_of es variables object n field arguments =
    option_and_then (λ d. option_map (λ a. record { type_name = object; number = n; field = field; arguments = a }) (coerced_arguments es variables d.arguments arguments)) (field_named es object field)

abbrev pub type_of : List EntryOf → (object field : Text) → Option FieldType
type_of es object field = option_map (λ d. d.type_ref) (field_named es object field)

abbrev pub look_up : List EntryOf → List RowOf → Values → (object : Text) → ℕ → (field : Text) → Arguments → Option Answer
look_up es rows variables object n field arguments = option_and_then (row_of rows) (call_of es variables object n field arguments)

abbrev pub given_in : List EntryOf → List RowOf → Values → Given
given_in es rows variables = record {
  takes = takes_with variables;
  applies = is_possible es;
  is_composite = is_composite_type es;
  type_of = λ object field. if bytes_eq field typename then Some typename_type else type_of es object field;
  leaf_at = leaf_at es;
  look = λ object n field arguments. if bytes_eq field typename then Some (record { label = result.leaf (text object); below = none }) else look_up es rows variables object n field arguments;
  call = λ object n field arguments. if bytes_eq field typename then None else call_of es variables object n field arguments;
}

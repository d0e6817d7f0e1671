-- What the code's world stands for.
use Rattle.std.specs.Prelude.{ℕ, List, Option, map}
use Rattle.gq_types.specs.Look.{types_view}
use Rattle.gq_types.specs.Entries.{EntryOf}
use Rattle.gq_table.specs.Rows.{RowOf, deepest}
use Rattle.gq_table.specs.Views.{entries_view, rows_view}
use Rattle.gq_document.specs.Definitions.{fragments_view}
use Rattle.gq_meaning.specs.Values.{Text, Values}
use Rattle.gq_meaning.specs.Results.{Answer, Call}
use Rattle.gq_meaning.specs.Selected.{Arguments}
use Rattle.gq_meaning.specs.Expand.{Definition}
use Rattle.gq_meaning.specs.Response.{FieldType, Given}
use Rattle.gq_collect.specs.Given.{given_in, type_of, look_up, call_of}
use Rattle.gq_collect.specs.Fragments.{definition_of}
use Rattle.gq_collect.specs.declared.world.World.{World}

abbrev pub types_in : World → List EntryOf
types_in w = types_view w.coercion.types.now

abbrev pub rows_in : World → List RowOf
rows_in w = rows_view w.table.now

abbrev pub values_in : World → Values
values_in w = entries_view w.variables.now

abbrev pub definitions_in : World → List Definition
definitions_in w = map definition_of (fragments_view w.fragments.now.all.now)

abbrev pub type_in : World → (object field : Text) → Option FieldType
type_in w = type_of (types_in w)

abbrev pub look_in : World → (object : Text) → ℕ → (field : Text) → Arguments → Option Answer
look_in w = look_up (types_in w) (rows_in w) (values_in w)

abbrev pub call_in : World → (object : Text) → ℕ → (field : Text) → Arguments → Option Call
call_in w = call_of (types_in w) (values_in w)

abbrev pub deepest_in : World → ℕ
deepest_in w = deepest (rows_in w)

abbrev pub given_by : World → Given
given_by w = given_in (types_in w) (rows_in w) (values_in w)

-- What the code's values and results stand for.
use Rattle.std.specs.Prelude.{List, None, Some, map}
use Rattle.gq_tree.specs.Forest.{none, row}
use Rattle.gq_meaning.specs.Values as value
use Rattle.gq_meaning.specs.Values.{Text, Part}
use Rattle.gq_meaning.specs.Results as result
use Rattle.gq_meaning.specs.Results.{Answer, Answers}
use Rattle.gq_table.specs.declared.calls.Call.{Call}
use Rattle.gq_table.specs.Rows.{RowOf}
use Rattle.gq_table.specs.declared.table.Row.{Row}
use Rattle.gq_table.specs.declared.values.Leaf.{Leaf}
use Rattle.gq_table.specs.declared.values.Leaf.TheVariants as leaf
use Rattle.gq_table.specs.declared.values.Value.{Value}
use Rattle.gq_table.specs.declared.values.Entry.{Entry}
use Rattle.gq_table.specs.declared.values.Value.TheOpen.{Value-F, Entry-F}
use Rattle.gq_table.specs.declared.values.Value.TheFolds.{fold-Value}
use Rattle.gq_table.specs.declared.results.Outcome.{Outcome}
use Rattle.gq_table.specs.declared.results.Outcome.TheOpen.{Outcome-F}
use Rattle.gq_table.specs.declared.results.Outcome.TheFolds.{fold-Outcome}

abbrev pub leaf_view : Leaf → value.Leaf
leaf_view (leaf.Boolean b) = value.boolean b
leaf_view (leaf.Number spelling) = value.number spelling
leaf_view (leaf.Text text) = value.text text

-- a value by itself, and the same under a name
abbrev pub alone : value.Says → value.Values → value.Value
alone says below = record { label = record { key = None; says = says }; below = below }

abbrev pub under : Text → value.Value → value.Value
under name v = record { label = record { key = Some name; says = v.label.says }; below = v.below }

-- one layer of a value, and of an entry, whose parts are seen already
abbrev pub value_step : Value-F value.Value value.Value → value.Value
value_step Value-F.Null = alone value.null none
value_step (Value-F.Leaf v) = alone (value.leaf (leaf_view v)) none
value_step (Value-F.Enum name) = alone (value.enum name) none
value_step (Value-F.List items) = alone value.list (row items.items)
value_step (Value-F.Object entries) = alone value.object (row entries.items)

abbrev pub entry_step : Entry-F value.Value value.Value → value.Value
entry_step e = under e.name e.value

unfoldable pub value_view : Value → value.Value
value_view = fold-Value value.Value value.Value value_step entry_step

abbrev pub values_view : List Value → value.Values
values_view vs = row (map value_view vs)

abbrev pub entry_view : Entry → value.Value
entry_view e = under e.name (value_view e.value)

abbrev pub entries_view : List Entry → value.Values
entries_view es = row (map entry_view es)

-- one layer of a result
abbrev pub answer_step : Outcome-F Answer → Answer
answer_step Outcome-F.Nothing = record { label = result.nothing; below = none }
answer_step Outcome-F.Failed = record { label = result.failed; below = none }
answer_step (Outcome-F.Leaf v) = record { label = result.leaf (leaf_view v); below = none }
answer_step (Outcome-F.Object type_name number) = record { label = result.object type_name number; below = none }
answer_step (Outcome-F.List items) = record { label = result.list; below = row items.items }

unfoldable pub answer_view : Outcome → Answer
answer_view = fold-Outcome Answer answer_step

abbrev pub answers_view : List Outcome → Answers
answers_view os = row (map answer_view os)

-- a call
abbrev pub call_of : Call → result.Call
call_of c = record { type_name = c.type_name.now; number = c.number; field = c.field.now; arguments = entries_view c.arguments.now }

-- a row of a table
abbrev pub row_view : Row → RowOf
row_view r = record { call = record { type_name = r.type_name; number = r.number; field = r.field; arguments = entries_view r.arguments.items }; result = answer_view r.result }

abbrev pub rows_view : List Row → List RowOf
rows_view rs = map row_view rs

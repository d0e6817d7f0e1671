-- What is told of the default value of one variable, computed.
use Rattle.std.specs.Prelude.{ℕ, List, [], Option, Some, None}
use Rattle.gq_text.specs.declared.place.Span.{Span}
use Rattle.gq_fault.specs.declared.fault.Fault.{Fault}
use Rattle.gq_tree.specs.Plain.{TypeOf, VariableOf, Val}
use Rattle.gq_types.specs.Entries.{EntryOf}
use Rattle.gq_values.specs.Literals.{default_at}
use Rattle.gq_values.specs.LiteralPlaces.{literal_faults}

abbrev pub wrong_value_of : List EntryOf → ℕ → TypeOf Span → Option (Val Span) → List Fault
wrong_value_of es file t None = []
wrong_value_of es file t (Some default) = literal_faults es file (default_at es t) default

abbrev pub wrong_default_of : List EntryOf → ℕ → VariableOf Span → List Fault
wrong_default_of es file v = wrong_value_of es file v.type_ref v.default

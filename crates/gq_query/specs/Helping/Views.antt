-- What the code's definitions stand for.
use Rattle.std.specs.Prelude.{Option}
use Rattle.std.specs.Option.{option_map}
use Rattle.std.specs.Borrow.{Bor}
use Rattle.gq_text.specs.declared.place.Span.{Span}
use Rattle.gq_tree.specs.declared.tree.VariableDefinition.{VariableDefinition}
use Rattle.gq_tree.specs.Plain.{VariableOf}
use Rattle.gq_tree.specs.Views.{variable_view}

abbrev pub found_variable : Option (Bor VariableDefinition) → Option (VariableOf Span)
found_variable o = option_map (λ v. variable_view v.now) o

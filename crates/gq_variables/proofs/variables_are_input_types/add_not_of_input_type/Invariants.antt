use Rattle.std.proofs.Common.{◌≡◌, ◌++◌, drop, map}
use Rattle.gq_tree.specs.Views.{variable_view}
use Rattle.gq_types.specs.Look.{types_view}
use Rattle.gq_variables.specs.Helping.VariablePlaces.{not_of_input_type}
use Rattle.gq_variables.proofs.variables_are_input_types.add_not_of_input_type.Given as goal

abbrev pub invariant-loop-one : goal.invariant-loop-one
invariant-loop-one l =
    l.faults.items ++ not_of_input_type (types_view l.types) l.file (map variable_view (drop l.one-index l.variables)) ≡ l.initial.faults.items ++ not_of_input_type (types_view l.types) l.file (map variable_view l.variables)

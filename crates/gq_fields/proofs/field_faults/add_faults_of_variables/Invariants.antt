use Rattle.std.proofs.Common.{◌≡◌, ◌++◌, drop, map}
use Rattle.gq_tree.specs.Views.{variable_view}
use Rattle.gq_types.specs.Look.{types_view}
use Rattle.gq_fields.specs.Helping.FieldFaultsPlaces.{variables_faults}
use Rattle.gq_fields.proofs.field_faults.add_faults_of_variables.Given as goal

abbrev pub invariant-loop-variable : goal.invariant-loop-variable
invariant-loop-variable l = l.faults.items ++ variables_faults (types_view l.types) l.file (map variable_view (drop l.variable-index l.variables)) ≡ l.initial.faults.items ++ variables_faults (types_view l.types) l.file (map variable_view l.variables)

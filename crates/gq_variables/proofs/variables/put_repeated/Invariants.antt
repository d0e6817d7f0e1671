use Rattle.std.proofs.Common.{◌≡◌, ◌++◌, drop, map}
use Rattle.gq_tree.specs.Views.{variable_view}
use Rattle.gq_variables.specs.Helping.VariablePlaces.{variable_texts, repeated_variables}
use Rattle.gq_variables.specs.Helping.Views.{variables_view}
use Rattle.gq_variables.proofs.variables.put_repeated.Given as goal

abbrev pub invariant-loop-variable : goal.invariant-loop-variable
invariant-loop-variable l = record {
  found : variables_view l.repeated.items ++ repeated_variables l.names (map variable_view (drop l.variable-index l.all)) ≡ variables_view l.initial.repeated.items ++ repeated_variables l.initial.names (map variable_view l.all);
  names : l.names ++ variable_texts (map variable_view (drop l.variable-index l.all)) ≡ l.initial.names ++ variable_texts (map variable_view l.all);
}

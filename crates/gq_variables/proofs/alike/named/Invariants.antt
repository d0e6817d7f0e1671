use Rattle.std.proofs.Common.{◌≡◌, ◌++◌, drop, map}
use Rattle.std.specs.Prelude.{filter}
use Rattle.gq_tree.specs.Views.{variable_view}
use Rattle.gq_variables.specs.Helping.Alike.{is_named}
use Rattle.gq_variables.specs.Helping.Views.{variables_view}
use Rattle.gq_variables.proofs.alike.named.Given as goal

abbrev pub invariant-loop-variable : goal.invariant-loop-variable
invariant-loop-variable l =
    variables_view l.named.items ++ filter (is_named l.names) (map variable_view (drop l.variable-index l.variables)) ≡ filter (is_named l.names) (map variable_view l.variables)

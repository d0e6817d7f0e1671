use Rattle.std.proofs.Common.{◌≡◌, drop}
use Rattle.std.specs.Prelude.{◌||◌}
use Rattle.std.specs.List.{list_any}
use Rattle.gq_types.specs.Look.{types_view}
use Rattle.gq_variables.specs.Uses.{UseOf}
use Rattle.gq_variables.specs.Helping.Again.{any_under}
use Rattle.gq_variables.specs.Helping.VariablePlaces.{is_wrong_for}
use Rattle.gq_variables.specs.Helping.Views.{variables_view}
use Rattle.gq_variables.proofs.again.by_name.Given as goal

abbrev pub invariant-loop-variable : goal.invariant-loop-variable
invariant-loop-variable l =
    (u : UseOf) → (any_under (types_view l.types) l.again u || list_any (is_wrong_for (types_view l.types) u) (variables_view (drop l.variable-index l.variables)))
    ≡ list_any (is_wrong_for (types_view l.types) u) (variables_view l.variables)

use Rattle.std.proofs.Common.{◌≡◌, drop}
use Rattle.std.specs.List.{list_any}
use Rattle.gq_types.specs.Look.{types_view}
use Rattle.gq_variables.specs.Helping.VariablePlaces.{is_wrong_at}
use Rattle.gq_variables.specs.Helping.Views.{place_view, variables_view}
use Rattle.gq_variables.proofs.all_variable_usages_are_allowed.any_is_wrong.Given as goal

abbrev pub invariant-loop-variable : goal.invariant-loop-variable
invariant-loop-variable l =
    list_any (is_wrong_at (types_view l.types) (place_view l.place)) (variables_view (drop l.variable-index l.variables)) ≡ list_any (is_wrong_at (types_view l.types) (place_view l.place)) (variables_view l.variables)

use Rattle.std.proofs.Common.{◌≡◌, ◌++◌, drop, map}
use Rattle.gq_tree.specs.Views.{variable_view}
use Rattle.gq_types.specs.Look.{types_view}
use Rattle.gq_variables.specs.Helping.UsesPlaces.{variable_uses}
use Rattle.gq_variables.specs.Helping.Views.{uses_view}
use Rattle.gq_variables.proofs.selections.put_uses_of_variables.Given as goal

abbrev pub invariant-loop-variable : goal.invariant-loop-variable
invariant-loop-variable l =
    uses_view l.uses.items ++ variable_uses (types_view l.types) l.file (map variable_view (drop l.variable-index l.variables))
    ≡ uses_view l.initial.uses.items ++ variable_uses (types_view l.types) l.file (map variable_view l.variables)

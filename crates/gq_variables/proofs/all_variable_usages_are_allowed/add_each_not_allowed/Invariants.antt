use Rattle.std.proofs.Common.{◌≡◌, ◌++◌, drop, map}
use Rattle.gq_tree.specs.Views.{variable_view}
use Rattle.gq_types.specs.Look.{types_view}
use Rattle.gq_variables.specs.Helping.Again.{not_allowed_by}
use Rattle.gq_variables.specs.Helping.Views.{uses_view}
use Rattle.gq_variables.proofs.all_variable_usages_are_allowed.add_each_not_allowed.Given as goal

abbrev pub invariant-loop-one : goal.invariant-loop-one
invariant-loop-one l =
    l.faults.items ++ not_allowed_by (types_view l.types) (map variable_view l.variables.all.now) l.again (uses_view (drop l.one-index l.uses))
    ≡ l.initial.faults.items ++ not_allowed_by (types_view l.types) (map variable_view l.variables.all.now) l.again (uses_view l.uses)

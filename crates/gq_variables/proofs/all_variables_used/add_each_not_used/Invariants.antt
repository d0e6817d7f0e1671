use Rattle.std.proofs.Common.{◌≡◌, ◌++◌, drop, map}
use Rattle.gq_tree.specs.Views.{variable_view}
use Rattle.gq_variables.specs.Helping.VariablePlaces.{not_used}
use Rattle.gq_variables.proofs.all_variables_used.add_each_not_used.Given as goal

abbrev pub invariant-loop-one : goal.invariant-loop-one
invariant-loop-one l =
    l.faults.items ++ not_used l.file (l.own ++ l.behind) (map variable_view (drop l.one-index l.variables)) ≡ l.initial.faults.items ++ not_used l.file (l.own ++ l.behind) (map variable_view l.variables)

use Rattle.std.proofs.Common.{◌≡◌, ◌++◌, drop, map}
use Rattle.gq_tree.specs.Views.{variable_view}
use Rattle.gq_variables.specs.Helping.VariablePlaces.{variable_texts, not_defined}
use Rattle.gq_variables.specs.Helping.Views.{uses_view}
use Rattle.gq_variables.proofs.all_variable_uses_defined.add_not_defined.Given as goal

abbrev pub invariant-loop-one : goal.invariant-loop-one
invariant-loop-one l =
    l.faults.items ++ not_defined (variable_texts (map variable_view l.variables.all.now)) (uses_view (drop l.one-index l.uses))
    ≡ l.initial.faults.items ++ not_defined (variable_texts (map variable_view l.variables.all.now)) (uses_view l.uses)

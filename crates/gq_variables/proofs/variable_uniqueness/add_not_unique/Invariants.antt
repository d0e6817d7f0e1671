use Rattle.std.proofs.Common.{◌≡◌, ◌++◌, drop}
use Rattle.gq_variables.specs.Helping.VariablePlaces.{not_unique}
use Rattle.gq_variables.specs.Helping.Views.{variables_view}
use Rattle.gq_variables.proofs.variable_uniqueness.add_not_unique.Given as goal

abbrev pub invariant-loop-one : goal.invariant-loop-one
invariant-loop-one l =
    l.faults.items ++ not_unique l.file (variables_view (drop l.one-index l.repeated)) ≡ l.initial.faults.items ++ not_unique l.file (variables_view l.repeated)

use Rattle.std.proofs.Common.{◌≡◌, ◌++◌, drop}
use Rattle.gq_variables.specs.Helping.VariablePlaces.{use_texts}
use Rattle.gq_variables.specs.Helping.Views.{uses_view}
use Rattle.gq_variables.proofs.all_variables_used.used_names.Given as goal

abbrev pub invariant-loop-one : goal.invariant-loop-one
invariant-loop-one l =
    l.names ++ use_texts (uses_view (drop l.one-index l.uses)) ≡ use_texts (uses_view l.uses)

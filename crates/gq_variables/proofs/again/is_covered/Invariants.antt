use Rattle.std.proofs.Common.{◌≡◌, drop}
use Rattle.std.specs.List.{list_any}
use Rattle.gq_tree.specs.Views.{variable_view}
use Rattle.gq_variables.specs.Helping.Again.{covers}
use Rattle.gq_variables.specs.Helping.Views.{variables_view}
use Rattle.gq_variables.proofs.again.is_covered.Given as goal

abbrev pub invariant-loop-one : goal.invariant-loop-one
invariant-loop-one l =
    list_any (λ one. covers one (variable_view l.other)) (variables_view (drop l.one-index l.known)) ≡ list_any (λ one. covers one (variable_view l.other)) (variables_view l.known)

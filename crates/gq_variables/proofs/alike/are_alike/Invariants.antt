use Rattle.std.proofs.Common.{◌≡◌, drop, true}
use Rattle.gq_variables.specs.Helping.Alike.{are_alike}
use Rattle.gq_variables.specs.Helping.Views.{variables_view}
use Rattle.gq_variables.proofs.alike.are_alike.Given as goal

-- those that were passed are alike
abbrev pub invariant-loop-place : goal.invariant-loop-place
invariant-loop-place l =
    are_alike (drop l.place (variables_view l.before)) (drop l.place (variables_view l.now)) ≡ true → are_alike (variables_view l.before) (variables_view l.now) ≡ true

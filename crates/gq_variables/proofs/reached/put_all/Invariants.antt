use Rattle.std.proofs.Common.{◌≡◌, ◌++◌, drop}
use Rattle.gq_variables.specs.Helping.Views.{uses_view}
use Rattle.gq_variables.proofs.reached.put_all.Given as goal

abbrev pub invariant-loop-one : goal.invariant-loop-one
invariant-loop-one l = uses_view l.uses.items ++ uses_view (drop l.one-index l.more) ≡ uses_view l.initial.uses.items ++ uses_view l.more

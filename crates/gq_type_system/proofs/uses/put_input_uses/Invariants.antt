use Rattle.std.proofs.Common.{◌≡◌, ◌++◌, drop, map}
use Rattle.gq_tree.specs.Views.{input_view}
use Rattle.gq_type_system.specs.Helping.UsesViews.{uses_view}
use Rattle.gq_type_system.specs.Uses.{input_use}
use Rattle.gq_type_system.proofs.uses.put_input_uses.Given as goal

abbrev pub invariant-loop-input : goal.invariant-loop-input
invariant-loop-input l = uses_view l.uses.items ++ map input_use (map input_view (drop l.input-index l.inputs)) ≡ uses_view l.initial.uses.items ++ map input_use (map input_view l.inputs)

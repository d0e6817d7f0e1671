use Rattle.std.proofs.Common.{◌≡◌, ◌++◌, drop, map}
use Rattle.gq_tree.specs.Views.{input_view}
use Rattle.gq_coerce.specs.Helping.Views.{inputs_view}
use Rattle.gq_coerce.proofs.inputs.put_inputs.Given as goal

abbrev pub invariant-loop-input : goal.invariant-loop-input
invariant-loop-input l = inputs_view l.all.items ++ map input_view (drop l.input-index l.inputs) ≡ inputs_view l.initial.all.items ++ map input_view l.inputs

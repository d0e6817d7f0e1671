use Rattle.std.proofs.Common.{◌≡◌, ◌++◌, drop, map}
use Rattle.gq_tree.specs.Views.{input_view}
use Rattle.gq_type_system.specs.Helping.DirectivesAndDefaultsPlaces.{inputs_view}
use Rattle.gq_type_system.proofs.directive_sites.put_each_input.Given as goal

abbrev pub invariant-loop-input : goal.invariant-loop-input
invariant-loop-input l = inputs_view l.inputs.items ++ map input_view (drop l.input-index l.more) ≡ inputs_view l.initial.inputs.items ++ map input_view l.more

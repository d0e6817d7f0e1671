use Rattle.std.proofs.Common.{◌≡◌, ◌++◌, drop, map}
use Rattle.gq_tree.specs.Views.{input_view}
use Rattle.gq_type_system.specs.Helping.UsesViews.{names_view}
use Rattle.gq_type_system.proofs.uses.put_input_names.Given as goal

abbrev pub invariant-loop-input : goal.invariant-loop-input
invariant-loop-input l = names_view l.names.items ++ map (λ i. i.name) (map input_view (drop l.input-index l.inputs)) ≡ names_view l.initial.names.items ++ map (λ i. i.name) (map input_view l.inputs)

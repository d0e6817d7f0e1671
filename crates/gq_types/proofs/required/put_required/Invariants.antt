use Rattle.std.proofs.Common.{◌≡◌, ◌++◌, drop, map}
use Rattle.gq_tree.specs.Views.{input_view}
use Rattle.gq_types.specs.Arguments.{argument_texts}
use Rattle.gq_types.specs.Helping.RequiredNames.{required_after}
use Rattle.gq_types.proofs.required.put_required.Given as goal

-- what was put, and what the others add
abbrev pub invariant-loop-input : goal.invariant-loop-input
invariant-loop-input l =
    (l.names ++ argument_texts (map input_view (drop l.input-index l.inputs)) ≡ l.initial.names ++ argument_texts (map input_view l.inputs))
    × (l.required ++ required_after l.names (map input_view (drop l.input-index l.inputs)) ≡ l.initial.required ++ required_after l.initial.names (map input_view l.inputs))

use Rattle.std.proofs.Common.{◌≡◌, ◌++◌, drop, map}
use Rattle.gq_tree.specs.Views.{input_view}
use Rattle.gq_type_system.specs.Helping.Groups.{names_in}
use Rattle.gq_types.specs.Joined.{put_in}
use Rattle.gq_type_system.proofs.parts.put_input_names.Given as goal

abbrev pub invariant-loop-input : goal.invariant-loop-input
invariant-loop-input l = names_in l.names.items ++ put_in l.file (map (λ y. y.name) (map input_view (drop l.input-index l.inputs))) ≡ names_in l.initial.names.items ++ put_in l.file (map (λ y. y.name) (map input_view l.inputs))

use Rattle.std.proofs.Common.{◌≡◌, ◌++◌, drop, map}
use Rattle.gq_tree.specs.Views.{enum_value_view}
use Rattle.gq_type_system.specs.Helping.Groups.{names_in}
use Rattle.gq_types.specs.Joined.{put_in}
use Rattle.gq_type_system.proofs.parts.put_value_names.Given as goal

abbrev pub invariant-loop-value : goal.invariant-loop-value
invariant-loop-value l = names_in l.names.items ++ put_in l.file (map (λ y. y.name) (map enum_value_view (drop l.value-index l.values))) ≡ names_in l.initial.names.items ++ put_in l.file (map (λ y. y.name) (map enum_value_view l.values))

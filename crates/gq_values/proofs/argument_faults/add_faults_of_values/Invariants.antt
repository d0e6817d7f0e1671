use Rattle.std.proofs.Common.{◌≡◌, ◌++◌, drop, map, None}
use Rattle.gq_tree.specs.Views.{argument_view}
use Rattle.gq_types.specs.Look.{types_view}
use Rattle.gq_values.specs.ArgumentPlaces.{argument_value_faults}
use Rattle.gq_values.proofs.argument_faults.add_faults_of_values.Given as goal

abbrev pub invariant-loop-argument : goal.invariant-loop-argument
invariant-loop-argument l =
    l.faults.items ++ argument_value_faults (types_view l.types) l.file None (map argument_view (drop l.argument-index l.arguments)) ≡ l.initial.faults.items ++ argument_value_faults (types_view l.types) l.file None (map argument_view l.arguments)

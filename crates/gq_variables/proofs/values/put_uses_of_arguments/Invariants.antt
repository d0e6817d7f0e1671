use Rattle.std.proofs.Common.{◌≡◌, ◌++◌, drop, map}
use Rattle.gq_values.specs.ArgumentPlaces.{definitions_view}
use Rattle.gq_tree.specs.Views.{argument_view}
use Rattle.gq_types.specs.Look.{types_view}
use Rattle.gq_variables.specs.Helping.UsesPlaces.{argument_uses}
use Rattle.gq_variables.specs.Helping.Views.{uses_view}
use Rattle.gq_variables.proofs.values.put_uses_of_arguments.Given as goal

abbrev pub invariant-loop-argument : goal.invariant-loop-argument
invariant-loop-argument l =
    uses_view l.uses.items ++ argument_uses (types_view l.types) l.file (definitions_view l.known) (map argument_view (drop l.argument-index l.arguments))
    ≡ uses_view l.initial.uses.items ++ argument_uses (types_view l.types) l.file (definitions_view l.known) (map argument_view l.arguments)

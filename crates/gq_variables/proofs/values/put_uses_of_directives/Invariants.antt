use Rattle.std.proofs.Common.{◌≡◌, ◌++◌, drop, map}
use Rattle.gq_tree.specs.Views.{directive_view}
use Rattle.gq_types.specs.Look.{types_view}
use Rattle.gq_variables.specs.Helping.UsesPlaces.{directive_uses}
use Rattle.gq_variables.specs.Helping.Views.{uses_view}
use Rattle.gq_variables.proofs.values.put_uses_of_directives.Given as goal

abbrev pub invariant-loop-directive : goal.invariant-loop-directive
invariant-loop-directive l =
    uses_view l.uses.items ++ directive_uses (types_view l.types) l.file (map directive_view (drop l.directive-index l.directives))
    ≡ uses_view l.initial.uses.items ++ directive_uses (types_view l.types) l.file (map directive_view l.directives)

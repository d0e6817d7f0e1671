use Rattle.std.proofs.Common.{◌≡◌, ◌++◌, drop, map}
use Rattle.gq_tree.specs.Names.{names_at}
use Rattle.gq_tree.specs.Views.{directive_view}
use Rattle.gq_index.specs.VariableNames.{directive_variables}
use Rattle.gq_index.proofs.variables.put_directives.Given as goal

abbrev pub invariant-loop-directive : goal.invariant-loop-directive
invariant-loop-directive l =
    names_at l.names.items ++ directive_variables (map directive_view (drop l.directive-index l.directives)) ≡ names_at l.initial.names.items ++ directive_variables (map directive_view l.directives)

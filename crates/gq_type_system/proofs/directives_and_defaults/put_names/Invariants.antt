use Rattle.std.proofs.Common.{◌≡◌, ◌++◌, drop, map}
use Rattle.gq_tree.specs.Views.{directive_view}
use Rattle.gq_values.specs.DirectivePlaces.{directive_texts}
use Rattle.gq_type_system.proofs.directives_and_defaults.put_names.Given as goal

abbrev pub invariant-loop-directive : goal.invariant-loop-directive
invariant-loop-directive l = l.names ++ directive_texts (map directive_view (drop l.directive-index l.directives)) ≡ l.initial.names ++ directive_texts (map directive_view l.directives)

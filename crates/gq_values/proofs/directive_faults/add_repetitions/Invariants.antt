use Rattle.std.proofs.Common.{◌≡◌, ◌++◌, drop, map}
use Rattle.gq_tree.specs.Views.{directive_view}
use Rattle.gq_types.specs.Look.{types_view}
use Rattle.gq_values.specs.DirectivePlaces.{repetitions, directive_texts}
use Rattle.gq_values.proofs.directive_faults.add_repetitions.Given as goal

abbrev pub invariant-loop-directive : goal.invariant-loop-directive
invariant-loop-directive l = record {
  found : l.faults.items ++ repetitions (types_view l.types) l.file l.before (map directive_view (drop l.directive-index l.directives)) ≡ l.initial.faults.items ++ repetitions (types_view l.types) l.file l.initial.before (map directive_view l.directives);
  names : l.before ++ directive_texts (map directive_view (drop l.directive-index l.directives)) ≡ l.initial.before ++ directive_texts (map directive_view l.directives);
}

use Rattle.std.proofs.Common.{◌≡◌, drop, map}
use Rattle.std.specs.List.{list_any}
use Rattle.gq_tree.specs.Views.{directive_view}
use Rattle.gq_reshape.specs.Inline.{is_in_way}
use Rattle.gq_reshape.proofs.inlining.is_one_in_way.Given as goal

abbrev pub invariant-loop-directive : goal.invariant-loop-directive
invariant-loop-directive l = list_any is_in_way (map directive_view (drop l.directive-index l.directives)) ≡ list_any is_in_way (map directive_view l.directives)

use Rattle.std.proofs.Common.{◌≡◌, drop, map}
use Rattle.gq_tree.specs.Same.{same_values, all_same}
use Rattle.gq_tree.specs.Views.{argument_view}
use Rattle.gq_tree.proofs.same.have_same_arguments.Given as goal

abbrev pub invariant-loop-i : goal.invariant-loop-i
invariant-loop-i l = all_same same_values (map argument_view (drop l.i l.a)) (map argument_view (drop l.i l.b)) ≡ all_same same_values (map argument_view l.a) (map argument_view l.b)

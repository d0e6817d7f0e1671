use Rattle.std.proofs.Common.{◌≡◌, drop, map}
use Rattle.gq_tree.specs.Views.{input_view}
use Rattle.gq_type_system.specs.Helping.ImplementationsPlaces.{breaks_arguments}
use Rattle.gq_type_system.proofs.implementations.breaks_arguments.Given as goal

abbrev pub invariant-loop-argument : goal.invariant-loop-argument
invariant-loop-argument l = breaks_arguments (map input_view l.wanted.all.now) (map input_view l.own.all.now) (map input_view (drop l.argument-index l.all)) ≡ breaks_arguments (map input_view l.wanted.all.now) (map input_view l.own.all.now) (map input_view l.all)

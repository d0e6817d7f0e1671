use Rattle.std.proofs.Common.{◌≡◌, drop, map}
use Rattle.gq_tree.specs.Views.{input_view}
use Rattle.gq_type_system.specs.Helping.ImplementationsPlaces.{requires_further}
use Rattle.gq_type_system.proofs.implementations.requires_further.Given as goal

abbrev pub invariant-loop-further : goal.invariant-loop-further
invariant-loop-further l = requires_further (map input_view l.wanted.all.now) (map input_view l.own.all.now) (map input_view (drop l.further-index l.all)) ≡ requires_further (map input_view l.wanted.all.now) (map input_view l.own.all.now) (map input_view l.all)

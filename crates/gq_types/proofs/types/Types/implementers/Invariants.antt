use Rattle.std.proofs.Common.{◌≡◌, take}
use Rattle.std.specs.List.{filter}
use Rattle.gq_types.specs.Look.{types_view}
use Rattle.gq_types.specs.Declarers.{declarers}
use Rattle.gq_types.proofs.ImplementerLemmas.{test_at}
use Rattle.gq_types.proofs.types.Types.implementers.Given as goal

abbrev pub invariant-loop-number : goal.invariant-loop-number
invariant-loop-number l = l.numbers.items ≡ filter (test_at (types_view l.self) l.interface) (take l.number-index (declarers (types_view l.self) l.interface))

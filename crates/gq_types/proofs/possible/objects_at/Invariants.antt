use Rattle.std.proofs.Common.{◌≡◌, ◌++◌, drop}
use Rattle.gq_types.specs.Look.{types_view}
use Rattle.gq_types.specs.LookUps.{texts_of}
use Rattle.gq_types.specs.Helping.PossiblePlaces.{objects_at}
use Rattle.gq_types.proofs.possible.objects_at.Given as goal

abbrev pub invariant-loop-number : goal.invariant-loop-number
invariant-loop-number l = texts_of l.texts.items ++ objects_at (types_view l.types) (drop l.number-index l.numbers) ≡ objects_at (types_view l.types) l.numbers

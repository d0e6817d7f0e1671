use Rattle.std.proofs.Common.{◌≡◌, drop}
use Rattle.gq_type_system.specs.Helping.DefaultValuesPlaces.{any_marked}
use Rattle.gq_type_system.proofs.default_values.any_marked.Given as goal

abbrev pub invariant-loop-number : goal.invariant-loop-number
invariant-loop-number l = any_marked l.marks (drop l.number-index l.numbers) ≡ any_marked l.marks l.numbers

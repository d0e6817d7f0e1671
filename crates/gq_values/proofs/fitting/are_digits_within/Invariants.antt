use Rattle.std.proofs.Common.{◌≡◌, ◌≤◌, drop}
use Rattle.gq_values.specs.Literals.{digits_from}
use Rattle.gq_values.proofs.fitting.are_digits_within.Given as goal

abbrev pub invariant-loop-digit : goal.invariant-loop-digit
invariant-loop-digit l = record { within : l.value ≤ l.limit; rest : digits_from l.value (drop l.digit-index l.digits) ≡ digits_from 0 l.digits }

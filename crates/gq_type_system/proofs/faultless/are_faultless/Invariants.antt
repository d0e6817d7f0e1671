use Rattle.std.proofs.Common.{All, take}
use Rattle.gq_types.specs.Look.{types_view}
use Rattle.gq_type_system.specs.FaultsAt.{IsFaultlessAt}
use Rattle.gq_type_system.proofs.faultless.are_faultless.Given as goal

-- no rule is broken at those that were looked at
abbrev pub invariant-loop-number : goal.invariant-loop-number
invariant-loop-number l = All (IsFaultlessAt (types_view l.types)) (take l.number-index l.numbers)

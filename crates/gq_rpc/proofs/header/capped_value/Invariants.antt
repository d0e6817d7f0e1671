use Rattle.std.proofs.Common.{◌≡◌, min, take}
use Rattle.std.specs.Str.Parse.{digits_value}
use Rattle.gq_rpc.specs.Lines.{length_cap}
use Rattle.gq_rpc.proofs.header.capped_value.Given as goal

abbrev pub invariant-loop-b : goal.invariant-loop-b
invariant-loop-b l = l.value ≡ min (digits_value 10 (take l.b-index l.digits)) length_cap

use Rattle.std.proofs.Common.{◌≡◌, ◌++◌, drop, map}
use Rattle.gq_index.specs.Helping.Seats.{seat_of}
use Rattle.gq_index.proofs.making.seats_of.Given as goal

abbrev pub invariant-loop-one : goal.invariant-loop-one
invariant-loop-one l = l.seats.items ++ map seat_of (drop l.one-index l.parts) ≡ map seat_of l.parts

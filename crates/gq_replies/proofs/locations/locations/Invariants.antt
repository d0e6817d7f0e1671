use Rattle.std.proofs.Common.{◌≡◌, ◌++◌, length}
use Rattle.gq_replies.specs.Locations.{locations_of}
use Rattle.gq_replies.proofs.locations.locations.Given as goal

-- the locations so far, and those of the rest
abbrev pub invariant-rows : goal.invariant-rows
invariant-rows l = l.locations ++ locations_of l.encoding l.documents l.rest ≡ locations_of l.encoding l.documents l.occurrences

abbrev pub decreases-rows : goal.decreases-rows
decreases-rows l = length l.rest

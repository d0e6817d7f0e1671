use Rattle.std.proofs.Common.{◌≡◌, ◌++◌, map, take}
use Rattle.gq_replies.specs.Locations.{location_in}
use Rattle.gq_replies.proofs.locations.put_in_document.Given as goal

abbrev pub invariant-loop-occurrence : goal.invariant-loop-occurrence
invariant-loop-occurrence l = l.locations ≡ l.initial.locations ++ map (λ o. location_in l.encoding o l.document) (take l.occurrence-index l.occurrences)

use Rattle.gq_names.specs.UnderNames.{items_under}
use Rattle.gq_merging.specs.Helping.Entries.{entries_seen}
use Rattle.gq_merging.proofs.PlaceLemmas.{AreFirstPlaced}
use Rattle.gq_merging.proofs.places.places_by_name.Given as goal

abbrev pub invariant-loop-place : goal.invariant-loop-place
invariant-loop-place l = AreFirstPlaced (entries_seen l.entries) l.place (items_under l.by_name)

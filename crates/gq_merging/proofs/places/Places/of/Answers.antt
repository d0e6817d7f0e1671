use Rattle.gq_merging.specs.Helping.Entries.{entries_seen}
use Rattle.gq_merging.proofs.PlaceLemmas.{all_placed}
use Rattle.gq_merging.proofs.places.Places.of.Goals as goal

pub returns : goal.returns
returns c = all_placed (entries_seen c.args.entries) c.in_ok-all.all.items c.len-count.result c.len-count.ensures c.in_ok-all.ensures.within c.in_ok-all.ensures.each

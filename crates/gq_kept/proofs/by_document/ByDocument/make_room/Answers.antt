-- All of it stays.
use Rattle.gq_tree.specs.Readings.{shared_view}
use Rattle.gq_kept.specs.Helping.Held.{ArePartsOf}
use Rattle.gq_kept.proofs.NotedLemmas.{noted_among}
use Rattle.gq_kept.proofs.by_document.ByDocument.make_room.Goals as goal

pub returns : goal.returns
returns c es us rs within alike are = record {
  faults = c.make_room.ensures es us rs alike are.faults;
  fields = c.keep_before.ensures.room rs (shared_view c.args.reading.now) within are.fields;
  parts = noted_among ArePartsOf _ _ rs c.args.at are.parts (shared_view c.args.reading.now) within c.make_room-2.ensures;
}

-- All of it stays.
use Rattle.gq_kept.specs.Helping.Held.{ArePartsOf}
use Rattle.gq_kept.proofs.NotedLemmas.{noted_without}
use Rattle.gq_kept.proofs.by_document.ByDocument.close_room.Goals as goal

pub returns : goal.returns
returns c es us rs alike are = record {
  faults = c.close_room.ensures es us rs alike are.faults;
  fields = c.keep_before.ensures.taken rs are.fields;
  parts = noted_without ArePartsOf _ _ rs c.args.at are.parts c.close_room-2.ensures;
}

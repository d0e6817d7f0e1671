-- All of it stays.
use Rattle.gq_tree.specs.Readings.{shared_view}
use Rattle.gq_kept.specs.Helping.Held.{ArePartsOf}
use Rattle.gq_kept.proofs.NotedLemmas.{noted_over}
use Rattle.gq_kept.proofs.by_document.ByDocument.replace.Goals as goal

pub returns : goal.returns
returns c es us rs alike are = record {
  faults = c.replace.ensures es us rs alike are.faults;
  fields = c.replace-2.ensures rs (shared_view c.args.reading.now) are.fields;
  parts = noted_over ArePartsOf _ _ rs c.args.at are.parts (shared_view c.args.reading.now) c.forget.ensures;
}

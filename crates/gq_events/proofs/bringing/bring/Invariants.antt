-- The keys that the loop has not come to may disagree, and no others.
use Rattle.std.proofs.Common.{drop}
use Rattle.gq_events.specs.Documents.{docs_of}
use Rattle.gq_events.specs.Keeping.{AgreeBut}
use Rattle.gq_events.proofs.bringing.bring.Given as goal

abbrev pub invariant-loop-key : goal.invariant-loop-key
invariant-loop-key l = record {
  left : AgreeBut (drop l.key-index l.changed) l.kept.documents (docs_of l.documents);
  all : AgreeBut l.changed l.kept.documents (docs_of l.documents);
}

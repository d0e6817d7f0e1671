use Rattle.std.proofs.Common.{◌≡◌, map, take}
use Rattle.gq_edit.specs.Workspace.{AreTexts}
use Rattle.gq_events.specs.Documents.{doc_of}
use Rattle.gq_events.proofs.documents.SessionDocuments.project.Given as goal

abbrev pub invariant-loop-document : goal.invariant-loop-document
invariant-loop-document l = record {
  copied : l.docs ≡ map doc_of (take l.document-index l.document-items);
  texts : AreTexts l.docs;
}

use Rattle.std.proofs.Common.{◌∙◌}
use Rattle.gq_events.proofs.Keyed.{has_document_where}
use Rattle.gq_events.proofs.documents.SessionDocuments.has_document.Goals as goal

pub returns : goal.returns
returns c = c.is_ok.ensures.value ∙ has_document_where c.place.result c.args.self.now c.args.key.now c.place.ensures.found c.place.ensures.absent

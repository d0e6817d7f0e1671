-- The project has the documents that the loop has copied, in their order.
use Rattle.std.proofs.Common.{◌≡◌, arith, sym, subst}
use Rattle.std.proofs.lemmas.Grind.{common_steps}
use Rattle.gq_project.specs.Documents.{IsInOrder}
use Rattle.gq_events.specs.Documents.{docs_of}
use Rattle.gq_events.proofs.DocumentsKept.{docs_in_order}
use Rattle.gq_events.proofs.documents.SessionDocuments.project.Goals as goal

pub from_ordered-requires : goal.from_ordered-requires
from_ordered-requires c =
    let copied : c.into_vec.result.items ≡ docs_of c.self.inside.documents.items = grind (arith, common_steps) in
    subst IsInOrder (sym copied) (docs_in_order _ c.self.invariant)

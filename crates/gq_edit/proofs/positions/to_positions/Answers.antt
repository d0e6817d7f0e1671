-- The document that is edited is one of the project's.
use Rattle.std.proofs.Common.{sym}
use Rattle.gq_edit.proofs.Fitting.{found}
use Rattle.gq_edit.proofs.positions.to_positions.Goals as goal

pub document_positions-requires-clause-text : goal.document_positions-requires-clause-text
document_positions-requires-clause-text c = (found _ _ _ c.in-Some.doc.now c.requires.texts (sym c.in-Some.ensures)).holds

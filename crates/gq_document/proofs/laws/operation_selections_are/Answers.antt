use Rattle.gq_document.proofs.SelectionLemmas.{operation_holds}
use Rattle.gq_document.proofs.laws.operation_selections_are.Goals as goal

pub returns : goal.returns
returns c = operation_holds

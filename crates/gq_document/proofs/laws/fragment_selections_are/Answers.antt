use Rattle.gq_document.proofs.SelectionLemmas.{fragment_holds}
use Rattle.gq_document.proofs.laws.fragment_selections_are.Goals as goal

pub returns : goal.returns
returns c = fragment_holds

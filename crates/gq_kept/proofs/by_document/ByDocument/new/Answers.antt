-- Nothing is known.
use Rattle.std.proofs.Common.{subst, sym}
use Rattle.gq_kept.specs.Helping.Held.{AreHeld, ArePartsOf}
use Rattle.gq_kept.proofs.NotedLemmas.{none_noted}
use Rattle.gq_kept.proofs.by_document.ByDocument.new.Goals as goal

pub returns : goal.returns
returns c es rs = record { faults = c.new.ensures es rs; fields = c.new-2.ensures rs; parts = subst (AreHeld rs) (sym c.new-3.ensures) (none_noted ArePartsOf rs) }

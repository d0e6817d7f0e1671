use Rattle.std.proofs.Common.{subst, sym}
use Rattle.gq_known.specs.Known.{IsKnown}
use Rattle.gq_rules.specs.AllFaults.{AreFaultsOf}
use Rattle.gq_rules.proofs.known.reported.Goals as goal

pub returns : goal.returns
returns c = λ (k : IsKnown c.args.known).
    c.in_ok-report.ensures (subst (AreFaultsOf c.args.known.project.now) (sym c.deref.ensures.value) (c.in_ok-faults.ensures k))

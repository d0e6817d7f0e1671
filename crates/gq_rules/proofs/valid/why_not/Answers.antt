use Rattle.std.proofs.Common.{IfOk, subst, sym}
use Rattle.gq_rules.specs.AllFaults.{AreFaultsOf}
use Rattle.gq_rules.proofs.valid.why_not.Goals as goal

pub returns : goal.returns
returns c =
    c.in_ok-report.ensures
    (subst (AreFaultsOf c.args.project.now) (sym c.deref.ensures.value) (subst (λ r. IfOk r (λ faults. AreFaultsOf c.args.project.now faults.items)) c.in_ok-faults.was c.requires))

use Rattle.std.proofs.Common.{subst, sym}
use Rattle.gq_rules.specs.AllFaults.{AreFaultsOf}
use Rattle.gq_rules.proofs.report.validate.Goals as goal

pub returns : goal.returns
returns c =
    c.in_ok-report.ensures
    (subst (AreFaultsOf c.args.project.now) (sym c.deref.ensures.value) (subst (λ ds. AreFaultsOf ds c.in_ok-faults.faults.items) c.documents.ensures.all c.in_ok-faults.ensures))

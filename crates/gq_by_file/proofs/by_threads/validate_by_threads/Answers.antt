-- The report is that of the faults.
use Rattle.std.proofs.Common.{subst, sym}
use Rattle.gq_rules.specs.AllFaults.{AreFaultsOf}
use Rattle.gq_by_file.proofs.by_threads.validate_by_threads.Goals as goal

pub returns : goal.returns
returns g c =
    c.in_ok-report.ensures
    (subst (AreFaultsOf c.args.project.now) (sym c.deref.ensures.value) (subst (λ ds. AreFaultsOf ds c.in_ok-faults.faults.items) c.documents.ensures.all c.in_ok-faults.ensures))

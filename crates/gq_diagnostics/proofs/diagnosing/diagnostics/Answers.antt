use Rattle.gq_diagnostics.proofs.diagnosing.diagnostics.Goals as goal

pub returns : goal.returns
returns c = c.in_ok-all.ensures c.in_ok-report.ensures

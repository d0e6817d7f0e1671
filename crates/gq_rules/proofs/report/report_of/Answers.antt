use Rattle.std.proofs.Common.{ap, ◌∙◌}
use Rattle.gq_fault.specs.Tells.{told}
use Rattle.gq_rules.specs.AllFaults.{AreFaultsOf}
use Rattle.gq_rules.proofs.report.report_of.Goals as goal

pub returns : goal.returns
returns c = λ (d : AreFaultsOf c.args.project.now c.args.faults.now). record {
  readings = d.readings;
  are_readings = d.are_readings;
  faults = c.args.faults.now;
  sorted = d.sorted;
  exact = d.exact;
  are_told = c.in_ok-found.ensures ∙ ap (λ ds. told ds c.args.faults.now) c.documents.ensures.all;
}

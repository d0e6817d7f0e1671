use Rattle.gq_rules.specs.Validity.{IsReportOf}
use Rattle.gq_diagnostics.proofs.diagnosing.diagnostics_of.Goals as goal

pub returns : goal.returns
returns c = λ (reported : IsReportOf c.args.project.now c.args.report.found.items). record {
  report = c.args.report.found.items;
  is_report = reported;
  each = c.in_ok-all.ensures;
}

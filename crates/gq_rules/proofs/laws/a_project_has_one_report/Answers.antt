use Rattle.gq_rules.proofs.OneReport.{one_report}
use Rattle.gq_rules.proofs.laws.a_project_has_one_report.Goals as goal

pub returns : goal.returns
returns c = one_report c.documents_have_one_reading.ensures

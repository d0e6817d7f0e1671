use Rattle.gq_rules.proofs.OneReport.{not_both}
use Rattle.gq_rules.proofs.laws.no_project_is_valid_and_invalid.Goals as goal

pub returns : goal.returns
returns c = not_both c.documents_have_one_reading.ensures

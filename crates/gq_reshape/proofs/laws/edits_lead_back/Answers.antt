use Rattle.gq_reshape.proofs.LeadingBack.{extracts_lead_back, inlines_lead_back, removes_lead_back}
use Rattle.gq_reshape.proofs.laws.edits_lead_back.Goals as goal

pub returns-clause-extract : goal.returns-clause-extract
returns-clause-extract c = extracts_lead_back c.positions_lead_back.ensures

pub returns-clause-inline : goal.returns-clause-inline
returns-clause-inline c = inlines_lead_back c.positions_lead_back.ensures

pub returns-clause-remove : goal.returns-clause-remove
returns-clause-remove c = removes_lead_back c.positions_lead_back.ensures

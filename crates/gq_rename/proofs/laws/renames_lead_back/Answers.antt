use Rattle.gq_rename.proofs.LeadingBack.{renames_lead_back}
use Rattle.gq_rename.proofs.laws.renames_lead_back.Goals as goal

pub returns : goal.returns
returns c = renames_lead_back c.positions_lead_back.ensures

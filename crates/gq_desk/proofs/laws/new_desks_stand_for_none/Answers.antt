use Rattle.gq_desk.proofs.Standing.{new_desks_stand_for_none}
use Rattle.gq_desk.proofs.laws.new_desks_stand_for_none.Goals as goal

pub returns : goal.returns
returns c = new_desks_stand_for_none

use Rattle.gq_rename.proofs.PreparedStanding.{prepared_names_stand}
use Rattle.gq_rename.proofs.laws.prepared_names_stand_in_texts.Goals as goal

pub returns : goal.returns
returns c = prepared_names_stand

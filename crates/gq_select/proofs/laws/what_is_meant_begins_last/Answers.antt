use Rattle.gq_select.proofs.LastMeant.{last_is_meant, nothing_is_meant}
use Rattle.gq_select.proofs.laws.what_is_meant_begins_last.Goals as goal

pub returns-clause-one : goal.returns-clause-one
returns-clause-one c = last_is_meant

pub returns-clause-none : goal.returns-clause-none
returns-clause-none c = nothing_is_meant

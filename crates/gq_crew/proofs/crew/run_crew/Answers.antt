use Rattle.std.proofs.Common.{inr}
use Rattle.gq_crew.proofs.Settling.{runs_with}
use Rattle.gq_crew.proofs.crew.run_crew.Goals as goal

pub returns-in-Ok : goal.returns-in-Ok
returns-in-Ok g c = inr (record { keys = c.in-Ok.keys.items; listed = c.list.new.self; is_list = c.in-Ok.ensures.lists; runs = runs_with _ _ c.in-Ok.ensures.same c.run_opened.ensures })

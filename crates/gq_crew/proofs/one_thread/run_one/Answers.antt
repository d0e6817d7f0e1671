use Rattle.std.proofs.Common.{inr}
use Rattle.gq_crew.proofs.Driven.{runs_with}
use Rattle.gq_crew.proofs.one_thread.run_one.Goals as goal

pub returns-in-Ok-clause-runs : goal.returns-in-Ok-clause-runs
returns-in-Ok-clause-runs g c =
    inr (record { keys = c.in-Ok.keys.items; listed = c.list.new.self; is_list = c.in-Ok.ensures.lists; runs = runs_with _ _ c.in-Ok.ensures.same c.run_listed.ensures.runs })

use Rattle.std.proofs.Common.{◌∙◌}
use Rattle.gq_crew.proofs.desk_side.drive_side.Goals as goal

pub returns : goal.returns
returns g c =
    (c.close.ensures.on ∙ (c.drive_desk-ended.ensures c.args.workers c.new-desk.ensures).0, rw c.close.ensures.collected ((c.drive_desk-ended.ensures c.args.workers c.new-desk.ensures).1))

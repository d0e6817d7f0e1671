use Rattle.std.proofs.Common.{Some, None, sym, ◌∙◌}
use Rattle.gq_tree.specs.Readings.{readings_view}
use Rattle.gq_rename.proofs.Targeting.{is_prepared}
use Rattle.gq_rename.proofs.preparing.prepare_by.Goals as goal

pub returns-in-Some : goal.returns-in-Some
returns-in-Some c known =
    is_prepared c.args.known.project.now c.args.key.now c.args.offset (readings_view c.args.known.readings.now) (Some c.in-Some.target) known.are_readings (λ are. sym c.in-Some.is ∙ c.in_ok-target.ensures are)

pub returns-in-None : goal.returns-in-None
returns-in-None c known =
    is_prepared c.args.known.project.now c.args.key.now c.args.offset (readings_view c.args.known.readings.now) None known.are_readings (λ are. sym c.in-None.is ∙ c.in_ok-target.ensures are)

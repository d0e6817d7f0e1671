use Rattle.std.proofs.lemmas.Result.{IfOk-weaker}
use Rattle.gq_tree.specs.Readings.{readings_view}
use Rattle.gq_rename.proofs.Targeting.{found_nowhere, found_there}
use Rattle.gq_rename.proofs.targets.target_by.Goals as goal

pub returns-in_default : goal.returns-in_default
returns-in_default c are =
    found_nowhere c.args.project.now c.args.key.now c.args.offset (readings_view c.args.readings.now) are c.in_default.ensures

pub returns : goal.returns
returns c =
    IfOk-weaker c.target_at.result _ _
    (λ found of are.
    found_there c.args.project.now c.args.key.now c.args.offset (readings_view c.args.readings.now) c.in-Some.file found are c.in-Some.ensures of)
    c.target_at.ensures

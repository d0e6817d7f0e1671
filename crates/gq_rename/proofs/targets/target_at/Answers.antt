use Rattle.std.proofs.Common.{◌∙◌, ap}
use Rattle.std.proofs.lemmas.Result.{IfOk-weaker}
use Rattle.gq_tree.specs.declared.parsed.Parsed.{Parsed}
use Rattle.gq_tree.specs.Readings.{definitions_read, parsed_view}
use Rattle.gq_mentions.specs.Renameables.{renameables}
use Rattle.gq_mentions.specs.Targets.{target}
use Rattle.gq_rename.proofs.Targeting.{found_at, nothing_at}
use Rattle.gq_rename.proofs.targets.target_at.Goals as goal

pub returns-in_ok-first-in-Some : goal.returns-in_ok-first-in-Some
returns-in_ok-first-in-Some c =
    let got = c.in-Some.ensures.lookup in
    IfOk-weaker c.target_read.result _ _
    (λ found of r at. found_at c.args.readings.now c.args.file c.args.offset c.in_ok-first-in-Some.first c.in-Some.reading.now found got.3.0 got.1 c.in_ok-first-in-Some.ensures.0
    (of ∙ ap (λ (r : Parsed). target c.args.offset (renameables c.in_ok-first-in-Some.first (definitions_read (parsed_view r)))) c.deref.ensures) r at)
    c.target_read.ensures

pub returns-in-None : goal.returns-in-None
returns-in-None c r at = absurd (nothing_at c.args.readings.now c.args.file c.in-None.ensures.lookup.3 r at)

use Rattle.std.proofs.Common.{List, sym, subst, ◌∙◌}
use Rattle.std.proofs.Math.Logic.{∥∥₁_elim, ∥∥₁_map}
use Rattle.gq_project.specs.declared.document.Doc.{Doc}
use Rattle.gq_project.specs.Documents.{IsInOrder}
use Rattle.gq_tree.specs.Readings.{readings_view}
use Rattle.gq_rename.proofs.Offering.{nothing_there, target_there}
use Rattle.gq_rename.proofs.Passing.{never_refused}
use Rattle.gq_rename.proofs.renames.rename_by.Goals as goal

pub returns-in-None-clause-answer : goal.returns-in-None-clause-answer
returns-in-None-clause-answer c known i =
    nothing_there c.args.known.project.now c.args.valid.now (readings_view c.args.known.readings.now) c.args.key.now c.args.offset c.args.new_name.now c.requires.project known.are_readings c.project-project.ensures.valid
    (λ are. sym c.in-None.is ∙ c.in_ok-target.ensures are)

pub offer-requires-clause-there : goal.offer-requires-clause-there
offer-requires-clause-there c =
    ∥∥₁_map c.requires.known (λ known. (
      c.args.key.now,
      c.args.offset,
      target_there c.args.known.project.now c.args.valid.now (readings_view c.args.known.readings.now) c.args.key.now c.args.offset c.in-Some.target _ c.requires.project known.are_readings c.in-Some.is c.in_ok-target.ensures,
    ))

pub returns-in-Some-clause-answer : goal.returns-in-Some-clause-answer
returns-in-Some-clause-answer c known i =
    c.offer.ensures.answer i c.args.key.now c.args.offset
    (target_there c.args.known.project.now c.args.valid.now (readings_view c.args.known.readings.now) c.args.key.now c.args.offset c.in-Some.target _ c.requires.project known.are_readings c.in-Some.is c.in_ok-target.ensures)

pub returns-in-Some-clause-kept : goal.returns-in-Some-clause-kept
returns-in-Some-clause-kept c known i =
    c.offer.ensures.kept i c.args.key.now c.args.offset
    (target_there c.args.known.project.now c.args.valid.now (readings_view c.args.known.readings.now) c.args.key.now c.args.offset c.in-Some.target _ c.requires.project known.are_readings c.in-Some.is c.in_ok-target.ensures)

pub returns-in-Some-clause-responses : goal.returns-in-Some-clause-responses
returns-in-Some-clause-responses c known i =
    let in_order = subst (λ (ds : List Doc). IsInOrder ds) c.project-project.ensures.same c.documents_are_texts.ensures.in_order in
    let there = target_there c.args.known.project.now c.args.valid.now (readings_view c.args.known.readings.now) c.args.key.now c.args.offset c.in-Some.target _ c.requires.project known.are_readings c.in-Some.is c.in_ok-target.ensures in
    c.renames_keep_responses.ensures c.args.valid.now c.args.key.now c.args.offset c.args.new_name.now in_order c.project-project.ensures.valid c.offer.result (c.offer.ensures.answer i c.args.key.now c.args.offset there)
    (c.offer.ensures.kept i c.args.key.now c.args.offset there)

pub returns-in-Some-clause-never_self_check : goal.returns-in-Some-clause-never_self_check
returns-in-Some-clause-never_self_check c told =
    let in_order = subst (λ (ds : List Doc). IsInOrder ds) c.project-project.ensures.same c.documents_are_texts.ensures.in_order in
    ∥∥₁_elim c.requires.known (λ p q. absurd p) (λ known.
    ∥∥₁_elim c.requires.index (λ p q. absurd p) (λ i.
    let there = target_there c.args.known.project.now c.args.valid.now (readings_view c.args.known.readings.now) c.args.key.now c.args.offset c.in-Some.target _ c.requires.project known.are_readings c.in-Some.is c.in_ok-target.ensures in
    never_refused c.renames_pass.ensures c.args.valid.now c.args.key.now c.args.offset c.args.new_name.now in_order c.project-project.ensures.valid c.offer.result
    (c.offer.ensures.answer i c.args.key.now c.args.offset there) told))

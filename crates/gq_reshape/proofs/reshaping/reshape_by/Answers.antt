use Rattle.std.proofs.Common.{List, subst}
use Rattle.std.proofs.Math.Logic.{∥∥₁_elim}
use Rattle.gq_project.specs.declared.document.Doc.{Doc}
use Rattle.gq_project.specs.Documents.{IsInOrder}
use Rattle.gq_tree.specs.Readings.{readings_view}
use Rattle.gq_parse.specs.Parsed.{AreParsed}
use Rattle.gq_types.specs.Look.{types_view}
use Rattle.gq_reshape.specs.Asks.{RangeAsk}
use Rattle.gq_reshape.specs.Helping.Steps.{IsAnswerTo, IsEditTo, RefusesTo}
use Rattle.gq_reshape.proofs.Answering.{answered, kept_by, valid_after, valid_after_prop, valid_edit_by}
use Rattle.gq_reshape.proofs.Kept.{answers_keep}
use Rattle.gq_reshape.proofs.reshaping.reshape_by.Goals as goal

pub returns-clause-answer : goal.returns-clause-answer
returns-clause-answer c known index =
    let k = c.args.known in
    let read : AreParsed c.args.valid.now (readings_view k.readings.now) = let R : List Doc → Type 0 = λ ds. AreParsed ds (readings_view k.readings.now) in subst R c.requires.project known.are_readings in
    answered (RefusesTo c.args.reshaping) (IsEditTo c.args.reshaping) c.args.valid.now (types_view k.types.now) (readings_view k.readings.now) (record { key = c.args.key.now; range = c.args.range }) c.answer_over.result
    read (record { readings = readings_view k.readings.now; are_readings = read; is = known.is_type_system }) (c.answer_over.ensures.answer known index)

pub returns-clause-valid : goal.returns-clause-valid
returns-clause-valid c =
    let k = c.args.known in
    let ask : RangeAsk = record { key = c.args.key.now; range = c.args.range } in
    let result = c.answer_over.result in
    ∥∥₁_elim c.requires.known (valid_after_prop c.args.valid.now result) (λ known.
    ∥∥₁_elim c.requires.index (valid_after_prop c.args.valid.now result) (λ index.
    valid_after c.args.valid.now (RefusesTo c.args.reshaping c.args.valid.now (types_view k.types.now) (readings_view k.readings.now) ask) (IsEditTo c.args.reshaping c.args.valid.now (types_view k.types.now) (readings_view k.readings.now) ask) result
    (valid_edit_by c.args.reshaping c.args.valid.now (types_view k.types.now) (readings_view k.readings.now) ask) (c.answer_over.ensures.answer known index)))

pub returns-clause-responses : goal.returns-clause-responses
returns-clause-responses c known index =
    let in_order = subst (λ (ds : List Doc). IsInOrder ds) c.project.ensures.same c.documents_are_texts.ensures.in_order in
    let keep = c.refactorings_keep_responses.ensures in
    answers_keep (IsAnswerTo c.args.reshaping) (kept_by c.args.reshaping keep.extract keep.inline keep.remove) c.args.valid.now (record { key = c.args.key.now; range = c.args.range }) in_order c.project.ensures.valid c.answer_over.result
    (returns-clause-answer c known index)

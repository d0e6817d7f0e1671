use Rattle.std.proofs.Common.{◌∙◌, inl}
use Rattle.std.proofs.lemmas.Result.{err_from_is_err_and}
use Rattle.gq_rename.proofs.Anew.{index_read}
use Rattle.gq_reshape.proofs.reshaping.reshape.Goals as goal

pub reshape_by-requires-clause-known : goal.reshape_by-requires-clause-known
reshape_by-requires-clause-known c = ∣ c.known-known.ensures.known c.in_ok-learned.ensures ∣₁

pub reshape_by-requires-clause-project : goal.reshape_by-requires-clause-project
reshape_by-requires-clause-project c = c.known-known.ensures.project ∙ c.project-project.ensures.same

pub reshape_by-requires-clause-index : goal.reshape_by-requires-clause-index
reshape_by-requires-clause-index c =
    ∣ index_read c.documents.result.now c.project-project.result.now c.args.valid.now c.in_ok-learned.learned.readings.items c.deref.result.now c.in_ok-index.index c.documents.ensures.all c.project-project.ensures.same c.deref.ensures.value c.in_ok-learned.ensures.are_readings c.in_ok-index.ensures ∣₁

pub returns-clause-answer : goal.returns-clause-answer
returns-clause-answer c =
    c.reshape_by.ensures.answer (c.known-known.ensures.known c.in_ok-learned.ensures)
    (index_read c.documents.result.now c.project-project.result.now c.args.valid.now c.in_ok-learned.learned.readings.items c.deref.result.now c.in_ok-index.index c.documents.ensures.all c.project-project.ensures.same c.deref.ensures.value c.in_ok-learned.ensures.are_readings c.in_ok-index.ensures)

pub returns-clause-responses : goal.returns-clause-responses
returns-clause-responses c =
    c.reshape_by.ensures.responses (c.known-known.ensures.known c.in_ok-learned.ensures)
    (index_read c.documents.result.now c.project-project.result.now c.args.valid.now c.in_ok-learned.learned.readings.items c.deref.result.now c.in_ok-index.index c.documents.ensures.all c.project-project.ensures.same c.deref.ensures.value c.in_ok-learned.ensures.are_readings c.in_ok-index.ensures)

pub returns-in_err-index-clause-answer : goal.returns-in_err-index-clause-answer
returns-in_err-index-clause-answer c = let p = err_from_is_err_and c.from_residual-in_err-index.result c.from_residual-in_err-index.ensures.1 in inl (rw (p.1, p.2))

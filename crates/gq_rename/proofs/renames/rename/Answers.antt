use Rattle.std.proofs.Common.{inl, refl}
use Rattle.std.proofs.lemmas.Result.{err_from_is_err_and}
use Rattle.gq_rename.proofs.Anew.{index_read}
use Rattle.gq_rename.proofs.renames.rename.Goals as goal

pub rename_by-requires-clause-known : goal.rename_by-requires-clause-known
rename_by-requires-clause-known c = ∣ c.known.ensures.known c.in_ok-learned.ensures ∣₁

pub rename_by-requires-clause-index : goal.rename_by-requires-clause-index
rename_by-requires-clause-index c =
    ∣ index_read c.documents.result.now c.project-project.result.now c.args.valid.now c.in_ok-learned.learned.readings.items c.deref.result.now c.in_ok-index.index c.documents.ensures.all c.project-project.ensures.same c.deref.ensures.value c.in_ok-learned.ensures.are_readings c.in_ok-index.ensures ∣₁

pub returns-clause-answer : goal.returns-clause-answer
returns-clause-answer c =
    c.rename_by.ensures.answer (c.known.ensures.known c.in_ok-learned.ensures)
    (index_read c.documents.result.now c.project-project.result.now c.args.valid.now c.in_ok-learned.learned.readings.items c.deref.result.now c.in_ok-index.index c.documents.ensures.all c.project-project.ensures.same c.deref.ensures.value c.in_ok-learned.ensures.are_readings c.in_ok-index.ensures)

pub returns-clause-kept : goal.returns-clause-kept
returns-clause-kept c =
    c.rename_by.ensures.kept (c.known.ensures.known c.in_ok-learned.ensures)
    (index_read c.documents.result.now c.project-project.result.now c.args.valid.now c.in_ok-learned.learned.readings.items c.deref.result.now c.in_ok-index.index c.documents.ensures.all c.project-project.ensures.same c.deref.ensures.value c.in_ok-learned.ensures.are_readings c.in_ok-index.ensures)

pub returns-clause-responses : goal.returns-clause-responses
returns-clause-responses c =
    c.rename_by.ensures.responses (c.known.ensures.known c.in_ok-learned.ensures)
    (index_read c.documents.result.now c.project-project.result.now c.args.valid.now c.in_ok-learned.learned.readings.items c.deref.result.now c.in_ok-index.index c.documents.ensures.all c.project-project.ensures.same c.deref.ensures.value c.in_ok-learned.ensures.are_readings c.in_ok-index.ensures)

pub returns-in_err-index-clause-answer : goal.returns-in_err-index-clause-answer
returns-in_err-index-clause-answer c =
    let told = err_from_is_err_and c.from_residual-in_err-index.result c.from_residual-in_err-index.ensures.1 in
    rw (told.1, told.2) (inl refl)

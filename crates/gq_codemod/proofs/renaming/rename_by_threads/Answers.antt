use Rattle.std.proofs.lemmas.Result.{IfOk-weaker, IfErr-weaker}
use Rattle.gq_check.specs.Files.{files_fault, documents_of}
use Rattle.gq_check.proofs.ExecLemmas.{same_as}
use Rattle.gq_check.proofs.VerdictLemmas.{no_memory, invalid_as}
use Rattle.gq_codemod.proofs.Outcomes.{texts_of_valid, texts_of_invalid}
use Rattle.gq_codemod.proofs.renaming.rename_by_threads.Goals as goal

pub rename_judged-requires-clause-valid : goal.rename_judged-requires-clause-valid
rename_judged-requires-clause-valid g c = texts_of_valid c.valid_by_threads.result c.in_ok-project.project c.in_ok-project.ensures.texts c.valid_by_threads.ensures.same

pub rename_judged-requires-clause-invalid : goal.rename_judged-requires-clause-invalid
rename_judged-requires-clause-invalid g c = texts_of_invalid c.valid_by_threads.result c.in_ok-project.project c.in_ok-project.ensures.texts c.valid_by_threads.ensures.handed_back

pub returns-clause-ok : goal.returns-clause-ok
returns-clause-ok g c =
    let project = c.in_ok-project.project in
    let documents = documents_of c.args.files.now in
    let are = c.in_ok-project.ensures.documents in
    IfOk-weaker c.rename_judged.result _ _ (λ r h. record { fine = c.in_ok-project.ensures.accepted; of_documents = h })
    (c.rename_judged.ensures.ok documents (same_as c.valid_by_threads.result project documents c.valid_by_threads.ensures.same are) (invalid_as project documents are c.valid_by_threads.result c.valid_by_threads.ensures.handed_back c.valid_by_threads.ensures.why))

pub returns-clause-err : goal.returns-clause-err
returns-clause-err g c = IfErr-weaker c.rename_judged.result _ _ (λ f is. no_memory (files_fault c.args.files.now) f is) c.rename_judged.ensures.err

use Rattle.std.proofs.lemmas.Result.{IfOk-weaker, IfErr-weaker}
use Rattle.gq_check.specs.Files.{files_fault, documents_of}
use Rattle.gq_check.proofs.ExecLemmas.{same_as}
use Rattle.gq_check.proofs.VerdictLemmas.{no_memory, invalid_as}
use Rattle.gq_codemod.proofs.Outcomes.{texts_of_valid, texts_of_invalid}
use Rattle.gq_codemod.proofs.renaming.rename.Goals as goal

pub rename_judged-requires-clause-valid : goal.rename_judged-requires-clause-valid
rename_judged-requires-clause-valid c = texts_of_valid c.new.result c.in_ok-project.project c.in_ok-project.ensures.texts c.new.ensures.same

pub rename_judged-requires-clause-invalid : goal.rename_judged-requires-clause-invalid
rename_judged-requires-clause-invalid c = texts_of_invalid c.new.result c.in_ok-project.project c.in_ok-project.ensures.texts c.new.ensures.handed_back

pub returns-clause-ok : goal.returns-clause-ok
returns-clause-ok c =
    let project = c.in_ok-project.project in
    let documents = documents_of c.args.files.now in
    let are = c.in_ok-project.ensures.documents in
    IfOk-weaker c.rename_judged.result _ _ (λ r h. record { fine = c.in_ok-project.ensures.accepted; of_documents = h })
    (c.rename_judged.ensures.ok documents (same_as c.new.result project documents c.new.ensures.same are) (invalid_as project documents are c.new.result c.new.ensures.handed_back c.new.ensures.why))

pub returns-clause-err : goal.returns-clause-err
returns-clause-err c = IfErr-weaker c.rename_judged.result _ _ (λ f is. no_memory (files_fault c.args.files.now) f is) c.rename_judged.ensures.err

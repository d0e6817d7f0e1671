use Rattle.std.proofs.Common.{◌≡◌, ◌++◌, List, IfOk, IfErr, OnOk, Option, None, refl, sym, ap, ◌∙◌, subst}
use Rattle.gq_check.specs.declared.files.File.{File}
use Rattle.gq_check.specs.Faults.{fault_line, IsFaultOr}
use Rattle.gq_check.specs.Files.{files_fault, documents_of}
use Rattle.gq_check.specs.Reasons.{refusal_reason}
use Rattle.gq_check.specs.Checks.{refused}
use Rattle.gq_check.proofs.VerdictLemmas.{ends_as}
use Rattle.gq_check.proofs.checking.check_by_threads.Goals as goal

pub returns-in-Err : goal.returns-in-Err
returns-in-Err g c =
    let same : c.deref-in-Err.result.now ≡ c.args.files.items = c.deref-in-Err.ensures.value in
    let is = subst (λ r. IfErr r (IsFaultOr (files_fault c.deref.result.now))) c.in-Err.is c.read_project.ensures.refused in
    let told = c.refuse.ensures (subst (λ (fs : List File). IsFaultOr (files_fault fs) c.in-Err.fault) (c.deref.ensures.value ∙ sym same) is) in
    record {
      outcome = refused told.fault;
      is_outcome = subst (λ (fs : List File). IsFaultOr (files_fault fs) told.fault) same told.is_fault;
      ends = ends_as _ _ _ _ _ _ _ _ _ _ _ refl (ap (λ (fs : List File). refusal_reason c.args.is_verbose fs told.fault ++ fault_line told.fault) same) refl told.ends;
    }

pub returns : goal.returns
returns g c =
    let files = c.args.files.items in
    let same : c.deref.result.now ≡ files = c.deref.ensures.value in
    let fine = subst (λ r. OnOk r (files_fault c.deref.result.now ≡ None)) c.in-Ok.is c.read_project.ensures.accepted in
    let are = subst (λ r. IfOk r (λ project. project ≡ documents_of c.deref.result.now)) c.in-Ok.is c.read_project.ensures.documents in
    c.tell_judged.ensures c.args.format c.args.is_verbose files
    (c.judge_by_threads-judged.ensures.ok files (subst (λ (fs : List File). files_fault fs ≡ None) same fine) (subst (λ (fs : List File). c.in-Ok.project ≡ documents_of fs) same are))
    c.judge_by_threads-judged.ensures.err

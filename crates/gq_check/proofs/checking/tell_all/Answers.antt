use Rattle.std.proofs.Common.{IfOk, IfErr, sym, ◌∙◌, subst}
use Rattle.gq_check.specs.Faults.{IsFaultOr}
use Rattle.gq_check.specs.Files.{files_fault}
use Rattle.gq_check.specs.Checks.{refused}
use Rattle.gq_check.specs.Helping.Verdicts.{IsVerdict}
use Rattle.gq_check.proofs.VerdictLemmas.{ends_as}
use Rattle.gq_check.proofs.checking.tell_all.Goals as goal

pub returns-in-Ok : goal.returns-in-Ok
returns-in-Ok g c format ok err =
    let files = c.args.files.now in
    let is : IsVerdict format files c.in-Ok.verdict = subst (λ r. IfOk r (IsVerdict format files)) c.in-Ok.is ok in
    record {
      outcome = is.outcome;
      is_outcome = is.is_outcome;
      ends = ends_as _ _ _ _ _ _ _ _ _ _ _ (c.deref.ensures.value ∙ is.text) (sym (is.no_error c.args.is_verbose)) is.status c.print.ensures;
    }

pub returns-in-Err : goal.returns-in-Err
returns-in-Err g c format ok err =
    let files = c.args.files.now in
    let told = c.refuse.ensures (subst (λ r. IfErr r (IsFaultOr (files_fault files))) c.in-Err.is err) in
    record { outcome = refused told.fault; is_outcome = told.is_fault; ends = told.ends }

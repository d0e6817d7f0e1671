use Rattle.std.proofs.Common.{◌≡◌, IfOk, IfErr, refl, sym, ap, ◌∙◌, subst}
use Rattle.gq_check.specs.declared.fault.CheckFault.TheVariants.{NoMemory}
use Rattle.gq_check.specs.Faults.{fault_line}
use Rattle.gq_check.specs.Checks.{refused}
use Rattle.gq_check.specs.Helping.Verdicts.{IsVerdict}
use Rattle.gq_check.proofs.VerdictLemmas.{ends_as}
use Rattle.gq_check.proofs.ReasonLemmas.{no_memory_told}
use Rattle.gq_check.proofs.checking.tell_judged.Goals as goal

pub returns-in-Ok : goal.returns-in-Ok
returns-in-Ok g c format is_verbose files ok err =
    let is : IsVerdict format files c.in-Ok.verdict = subst (λ r. IfOk r (IsVerdict format files)) c.in-Ok.is ok in
    record {
      outcome = is.outcome;
      is_outcome = is.is_outcome;
      ends = ends_as _ _ _ _ _ _ _ _ _ _ _ (c.deref.ensures.value ∙ is.text) (sym (is.no_error is_verbose)) is.status c.print.ensures;
    }

pub returns-in-Err : goal.returns-in-Err
returns-in-Err g c format is_verbose files ok err =
    let lacks = subst (λ r. IfErr r (λ fault. fault ≡ NoMemory)) c.in-Err.is err in
    record {
      outcome = refused NoMemory;
      is_outcome = tt;
      ends = ends_as _ _ _ _ _ _ _ _ _ _ _ refl (c.as_bytes.ensures.value ∙ c.line.ensures ∙ ap fault_line lacks ∙ no_memory_told is_verbose files) refl c.print-in-Err.ensures;
    }

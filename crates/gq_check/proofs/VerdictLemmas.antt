-- A report that is told, and a fault that is told.
use Rattle.std.proofs.Common.{◌≡◌, ℕ, List, Option, None, Vec, Result, Ok, Err, IfOk, IfErr, refl, sym, ap, subst, ◌∙◌}
use Rattle.std.specs.declared.alloc.Global.{Global}
use Rattle.gq_project.specs.declared.document.Doc.{Doc}
use Rattle.gq_fault.specs.declared.found.Found.{Found}
use Rattle.gq_rules.specs.declared.report.Report.{Report}
use Rattle.gq_rules.specs.declared.valid.Invalid.{Invalid}
use Rattle.gq_rules.specs.declared.valid.Why.{Why}
use Rattle.gq_rules.specs.declared.valid.Why.TheVariants as why
use Rattle.gq_rules.specs.Validity.{IsValid}
use Rattle.gq_rules.specs.ValidityViews.{IsWhy}
use Rattle.gq_check.specs.declared.fault.CheckFault.{CheckFault}
use Rattle.gq_check.specs.declared.files.File.{File}
use Rattle.gq_check.specs.Faults.{IsFaultOr}
use Rattle.gq_check.specs.Files.{files_fault, documents_of}
use Rattle.gq_check.specs.declared.formats.Format.{Format}
use Rattle.gq_check.specs.Formats.{printed_all, valid_text}
use Rattle.gq_check.specs.declared.fault.CheckFault.TheVariants.{NoMemory}
use Rattle.gq_check.specs.declared.judging.Verdict.{Verdict}
use Rattle.gq_check.specs.Checks.{valid, told, SinkAfter, Wrote, all_written, error_fails, EndsWith}
use Rattle.gq_check.specs.Helping.Printed.{PrintsError, in_full, in_part}
use Rattle.gq_check.specs.Helping.Verdicts.{IsVerdict, IsTold}

-- the report is told of documents that are no valid project
pub documents_told : (format : Format) (documents project : List Doc) (w : Why) (report : Report) (found : List Found) (text : Vec ℕ Global) → project ≡ documents → IsWhy documents w → w ≡ why.Report report → found ≡ report.found.items → text.items ≡ printed_all format project found →
    IsTold format documents (record { text = text; status = 1 })
documents_told format documents project w report found text same is_why is shown written =
    let both = subst (IsWhy documents) is is_why in
    record {
      found = report.found.items;
      invalid = both.1;
      report = both.0;
      text = written ∙ ap (λ ds. printed_all format ds found) same ∙ ap (printed_all format documents) shown;
      status = refl;
    }

-- so it is of files
pub verdict_told : (format : Format) (files : List File) (verdict : Verdict) → files_fault files ≡ None → IsTold format (documents_of files) verdict → IsVerdict format files verdict
verdict_told format files verdict fine t = record { outcome = told t.found; is_outcome = (fine, t.invalid, t.report); text = t.text; no_error = λ b. refl; status = t.status }

-- nothing is told of a project that is valid
pub verdict_valid : (format : Format) (files : List File) (text : Vec ℕ Global) → files_fault files ≡ None → ∥ IsValid (documents_of files) ∥₁ → text.items ≡ valid_text format → IsVerdict format files (record { text = text; status = 0 })
verdict_valid format files text fine is_valid ok = record { outcome = valid; is_outcome = (fine, is_valid); text = ok; no_error = λ b. refl; status = refl }

-- a project is judged as the documents that it is
module _ (project documents : List Doc) (are : project ≡ documents) where
  pub valid_as : (judged : Result (List Doc) Invalid) → IfOk judged (λ v. v ≡ project) → IfOk judged (λ v. ∥ IsValid v ∥₁) → IfOk judged (λ v. ∥ IsValid documents ∥₁)
  valid_as (Ok v) same is_valid = subst (λ ds. ∥ IsValid ds ∥₁) (same ∙ are) is_valid
  valid_as (Err e) same is_valid = tt

  pub invalid_as : (judged : Result (List Doc) Invalid) → IfErr judged (λ i. i.project ≡ project) → IfErr judged (λ i. IsWhy project i.why) → IfErr judged (λ i. (i.project ≡ documents) × IsWhy documents i.why)
  invalid_as (Ok v) back is_why = tt
  invalid_as (Err e) back is_why = (back ∙ are, subst (λ ds. IsWhy ds e.why) are is_why)

-- want of memory may refuse any files
pub no_memory : (stated : Option CheckFault) (fault : CheckFault) → fault ≡ NoMemory → IsFaultOr stated fault
no_memory stated f is = subst (IsFaultOr stated) (sym is) tt

-- what is printed is what was stated
pub ends_as : (output output' error error' : List ℕ) (wanted wanted' : ℕ) (out_held : Option (List ℕ)) (out : SinkAfter) (err_held : Option (List ℕ)) (err : SinkAfter) (status : ℕ) → output ≡ output' → error ≡ error' → wanted ≡ wanted'
    → EndsWith output error wanted out_held out err_held err status → EndsWith output' error' wanted' out_held out err_held err status
ends_as output output' error error' wanted wanted' out_held out err_held err status a b c h = rw (sym a, sym b, sym c) h

-- the first of two sinks was written in full
pub ends_after : (output error : List ℕ) (wanted : ℕ) (out_held : Option (List ℕ)) (out : SinkAfter) (err_held : Option (List ℕ)) (err : SinkAfter) (status : ℕ) → Wrote out_held out output → PrintsError error wanted err_held err status
    → EndsWith output error wanted out_held out err_held err status
ends_after output error wanted out_held out err_held err status wrote (in_full w s) = all_written wrote w s
ends_after output error wanted out_held out err_held err status wrote (in_part w s) = error_fails wrote w s

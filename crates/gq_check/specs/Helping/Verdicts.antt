-- What files that are not refused come to, as it is computed.
use Rattle.std.specs.Prelude.{◌≡◌, Bool, List, []}
use Rattle.gq_check.specs.declared.files.File.{File}
use Rattle.gq_check.specs.declared.judging.Verdict.{Verdict}
use Rattle.gq_project.specs.declared.document.Doc.{Doc}
use Rattle.gq_fault.specs.declared.found.Found.{Found}
use Rattle.gq_rules.specs.Validity.{IsInvalid, IsReportOf}
use Rattle.gq_check.specs.Checks.{Outcome, IsOutcome, output_of, error_of, status_of}
use Rattle.gq_check.specs.declared.formats.Format.{Format}
use Rattle.gq_check.specs.Formats.{printed_all}

pub record IsVerdict (format : Format) (files : List File) (verdict : Verdict) : Type 0 where
  pub outcome : Outcome
  pub is_outcome : IsOutcome files outcome
  pub text : verdict.text.items ≡ output_of format files outcome
  pub no_error : (is_verbose : Bool) → error_of is_verbose files outcome ≡ []
  pub status : verdict.status ≡ status_of outcome

-- what is told of documents that are no valid project
pub record IsTold (format : Format) (documents : List Doc) (verdict : Verdict) : Type 0 where
  pub found : List Found
  pub invalid : IsInvalid documents
  pub report : IsReportOf documents found
  pub text : verdict.text.items ≡ printed_all format documents found
  pub status : verdict.status ≡ 1

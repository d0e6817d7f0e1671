-- A check of files: what it comes to, what is written, and the status of the process.
use Rattle.std.specs.Prelude.{◌≡◌, ℕ, List, [], ◌++◌, Bool, true, false, Option, None}
use Rattle.std.specs.Io.KnownBytes.{Appends}
use Rattle.gq_rpc.specs.Devices.{Sent}
use Rattle.gq_fault.specs.declared.found.Found.{Found}
use Rattle.gq_rules.specs.Validity.{IsReportOf, IsValid, IsInvalid}
use Rattle.gq_check.specs.declared.fault.CheckFault.{CheckFault}
use Rattle.gq_check.specs.declared.fault.CheckFault.TheVariants.{Device}
use Rattle.gq_check.specs.declared.files.File.{File}
use Rattle.gq_check.specs.Faults.{fault_line, IsFaultOr}
use Rattle.gq_check.specs.Files.{files_fault, documents_of}
use Rattle.gq_check.specs.Reasons.{refusal_reason}
use Rattle.gq_check.specs.declared.formats.Format.{Format}
use Rattle.gq_check.specs.Formats.{printed_all, valid_text}

-- what files come to: they are refused, or their project is valid, or what was found is told
pub data Outcome : Type 0 where
  refused : CheckFault → Outcome
  valid : Outcome
  told : List Found → Outcome

-- files with a fault are refused by it, and any files may be for want of memory; else the project is valid or it is not
abbrev pub IsOutcome : List File → Outcome → Type 0
IsOutcome files (refused fault) = IsFaultOr (files_fault files) fault
IsOutcome files valid = (files_fault files ≡ None) × ∥ IsValid (documents_of files) ∥₁
IsOutcome files (told found) = (files_fault files ≡ None) × IsInvalid (documents_of files) × IsReportOf (documents_of files) found

-- what is written to standard output, and to standard error
abbrev pub output_of : Format → List File → Outcome → List ℕ
output_of format files (refused fault) = []
output_of format files valid = valid_text format
output_of format files (told found) = printed_all format (documents_of files) found

abbrev pub error_of : (is_verbose : Bool) → List File → Outcome → List ℕ
error_of is_verbose files (refused fault) = refusal_reason is_verbose files fault ++ fault_line fault
error_of is_verbose files valid = []
error_of is_verbose files (told found) = []

abbrev pub status_of : Outcome → ℕ
status_of (refused fault) = 3
status_of valid = 0
status_of (told found) = 1

-- how a sink stands afterwards: the bytes that were written, where they are known, and whether a write has failed
pub record SinkAfter : Type 0 where
  pub held : Option (List ℕ)
  pub failed : Bool

-- the bytes were written to a sink, behind what it held
pub record Wrote (held : Option (List ℕ)) (sink : SinkAfter) (bytes : List ℕ) : Type 0 where
  pub works : sink.failed ≡ false
  pub written : Appends held sink.held bytes

-- it failed, and a front of them was
pub record WroteInPart (held : Option (List ℕ)) (sink : SinkAfter) (bytes : List ℕ) : Type 0 where
  pub fails : sink.failed ≡ true
  pub sent : Sent held sink.held bytes

-- one or the other
pub data Tells (held : Option (List ℕ)) (sink : SinkAfter) (bytes : List ℕ) : Type 0 where
  in_full : Wrote held sink bytes → Tells held sink bytes
  in_part : WroteInPart held sink bytes → Tells held sink bytes

-- What is written to standard output and to standard error, and the status: 3 where a sink fails; where that is standard
-- output, the other one tells it.
pub data EndsWith (output error : List ℕ) (wanted : ℕ) (out_held : Option (List ℕ)) (out : SinkAfter) (err_held : Option (List ℕ)) (err : SinkAfter) (status : ℕ) : Type 0 where
  all_written : Wrote out_held out output → Wrote err_held err error → status ≡ wanted → EndsWith output error wanted out_held out err_held err status
  output_fails : WroteInPart out_held out output → Tells err_held err (fault_line Device) → status ≡ 3 → EndsWith output error wanted out_held out err_held err status
  error_fails : Wrote out_held out output → WroteInPart err_held err error → status ≡ 3 → EndsWith output error wanted out_held out err_held err status

-- the same of an outcome
abbrev pub Ends : Format → (is_verbose : Bool) → List File → Outcome → Option (List ℕ) → SinkAfter → Option (List ℕ) → SinkAfter → ℕ → Type 0
Ends format is_verbose files outcome = EndsWith (output_of format files outcome) (error_of is_verbose files outcome) (status_of outcome)

-- a check of files: an outcome, and what was written of it
pub record Checks (format : Format) (is_verbose : Bool) (files : List File) (out_held : Option (List ℕ)) (out : SinkAfter) (err_held : Option (List ℕ)) (err : SinkAfter) (status : ℕ) : Type 0 where
  pub outcome : Outcome
  pub is_outcome : IsOutcome files outcome
  pub ends : Ends format is_verbose files outcome out_held out err_held err status

-- files that are refused: by their fault, or for want of memory, and what was written of it
pub record Refuses (is_verbose : Bool) (files : List File) (out_held : Option (List ℕ)) (out : SinkAfter) (err_held : Option (List ℕ)) (err : SinkAfter) (status : ℕ) : Type 0 where
  pub fault : CheckFault
  pub is_fault : IsFaultOr (files_fault files) fault
  pub ends : EndsWith [] (refusal_reason is_verbose files fault ++ fault_line fault) 3 out_held out err_held err status

-- What an execution that is not refused comes to, as it is computed.
use Rattle.std.specs.Prelude.{◌≡◌, ℕ, Bool, true, List, [], ◌++◌, Option, None, ◌⊎◌, codes}
use Rattle.gq_meaning.specs.Values.{Text, Values}
use Rattle.gq_check.specs.declared.files.File.{File}
use Rattle.gq_check.specs.declared.judging.Verdict.{Verdict}
use Rattle.gq_check.specs.declared.fault.CheckFault.TheVariants.{TooMany, TooLarge, Device, NoMemory}
use Rattle.gq_check.specs.declared.exec_fault.ExecFault.{ExecFault}
use Rattle.gq_check.specs.declared.exec_fault.ExecFault.TheVariants.{BadTable, BadVariables, Check}
use Rattle.gq_table.specs.Rows.{RowOf}
use Rattle.gq_project.specs.declared.document.Doc.{Doc}
use Rattle.gq_rules.specs.Validity.{IsValid}
use Rattle.gq_response.specs.Responses.{ResponseOf}
use Rattle.gq_response.specs.Texts.{response_text}
use Rattle.gq_laws.specs.Rewriting.Executed.{IsExecuted}
use Rattle.gq_check.specs.declared.formats.Format.TheVariants as format
use Rattle.gq_check.specs.Helping.Verdicts.{IsTold}
use Rattle.gq_check.specs.Execution.{ExecOutcome, IsExecOutcome, IsReasonOf, exec_output, exec_error, exec_fault_line, exec_status}
use Rattle.gq_check.specs.Flaws.{IsExecReason}

pub record IsExecVerdict (name : Option Text) (table variables : Option (List ℕ)) (files : List File) (verdict : Verdict) : Type 0 where
  pub outcome : ExecOutcome
  pub is_outcome : IsExecOutcome name table variables files outcome
  pub text : verdict.text.items ≡ exec_output files outcome
  pub no_error : exec_error outcome ≡ []
  pub no_reason : (is_verbose : Bool) (t v : File) → IsReasonOf is_verbose t v files outcome []
  pub status : verdict.status ≡ exec_status outcome

-- what is written of a fault with `--verbose`
pub record IsExplained (table variables : File) (files : List File) (fault : ExecFault) (text : List ℕ) : Type 0 where
  pub reason : List ℕ
  pub is_reason : IsExecReason true table variables files fault reason
  pub told : text ≡ reason ++ exec_fault_line fault

-- why JSON is no table, or no variables: what it reads as is nothing, or memory was refused
abbrev pub IsFaultOfTable : Option (List RowOf) → ExecFault → Type 0
IsFaultOfTable read BadTable = read ≡ None
IsFaultOfTable read BadVariables = ⊥
IsFaultOfTable read (Check TooMany) = ⊥
IsFaultOfTable read (Check TooLarge) = ⊥
IsFaultOfTable read (Check Device) = ⊥
IsFaultOfTable read (Check NoMemory) = Unit {0}

abbrev pub IsFaultOfVariables : Option Values → ExecFault → Type 0
IsFaultOfVariables read BadTable = ⊥
IsFaultOfVariables read BadVariables = read ≡ None
IsFaultOfVariables read (Check TooMany) = ⊥
IsFaultOfVariables read (Check TooLarge) = ⊥
IsFaultOfVariables read (Check Device) = ⊥
IsFaultOfVariables read (Check NoMemory) = Unit {0}

-- a response, by documents that are a valid project
pub record IsResponded (name : Option Text) (rows : List RowOf) (raw : Values) (documents : List Doc) (verdict : Verdict) : Type 0 where
  pub response : ResponseOf
  pub valid : ∥ IsValid documents ∥₁
  pub executed : IsExecuted documents rows name raw response
  pub text : verdict.text.items ≡ response_text response ++ codes "\n"
  pub status : verdict.status ≡ 0

abbrev pub IsAnswered : Option Text → List RowOf → Values → List Doc → Verdict → Type 0
IsAnswered name rows raw documents verdict = IsResponded name rows raw documents verdict ⊎ IsTold format.Text documents verdict

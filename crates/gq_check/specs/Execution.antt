-- Execution of an operation of files over a table: what it comes to, what is written, and the status of the process.
use Rattle.std.specs.Prelude.{◌≡◌, ℕ, Bool, List, [], ◌++◌, Option, Some, None, codes, is_none, option_and_then, if◌then◌else◌}
use Rattle.std.specs.Option.{option_map, option_or}
use Rattle.gq_rpc.specs.Decoding.{body_value}
use Rattle.gq_fault.specs.declared.found.Found.{Found}
use Rattle.gq_rules.specs.Validity.{IsValid, IsInvalid, IsReportOf}
use Rattle.gq_table.specs.Rows.{RowOf}
use Rattle.gq_table.specs.Json.{rows_of_json, variables_of_json}
use Rattle.gq_meaning.specs.Values.{Text, Values}
use Rattle.gq_response.specs.Responses.{ResponseOf}
use Rattle.gq_response.specs.Texts.{response_text}
use Rattle.gq_laws.specs.Rewriting.Executed.{IsExecuted}
use Rattle.gq_check.specs.declared.fault.CheckFault.TheVariants.{TooMany, TooLarge, Device, NoMemory}
use Rattle.gq_check.specs.declared.exec_fault.ExecFault.{ExecFault}
use Rattle.gq_check.specs.declared.exec_fault.ExecFault.TheVariants.{BadTable, BadVariables, Check}
use Rattle.gq_check.specs.declared.files.File.{File}
use Rattle.gq_check.specs.Checks.{SinkAfter, EndsWith}
use Rattle.gq_check.specs.Faults.{fault_line}
use Rattle.gq_check.specs.Files.{content_of, files_fault, documents_of}
use Rattle.gq_check.specs.Flaws.{IsExecReason}
use Rattle.gq_check.specs.declared.formats.Format.TheVariants as format
use Rattle.gq_check.specs.Formats.{printed_all}

-- the table and the variables that bytes hold as JSON
abbrev pub rows_in : List ℕ → Option (List RowOf)
rows_in bytes = option_and_then rows_of_json (body_value bytes)

abbrev pub variables_in : List ℕ → Option Values
variables_in bytes = option_and_then variables_of_json (body_value bytes)

-- what is wrong with a file of them: it cannot be read, or holds none
abbrev pub table_fault : Option (List ℕ) → Option ExecFault
table_fault None = Some (Check Device)
table_fault (Some bytes) = if is_none (rows_in bytes) then Some BadTable else None

abbrev pub variables_fault : Option (List ℕ) → Option ExecFault
variables_fault None = Some (Check Device)
variables_fault (Some bytes) = if is_none (variables_in bytes) then Some BadVariables else None

-- the table is read first, then the variables, then the files of the project
abbrev pub exec_fault : (table variables : Option (List ℕ)) → List File → Option ExecFault
exec_fault table variables files = option_or (table_fault table) (option_or (variables_fault variables) (option_map Check (files_fault files)))

-- memory may be refused at any time; else the fault is the one that is stated
abbrev pub IsExecFaultOr : Option ExecFault → ExecFault → Type 0
IsExecFaultOr stated BadTable = stated ≡ Some BadTable
IsExecFaultOr stated BadVariables = stated ≡ Some BadVariables
IsExecFaultOr stated (Check TooMany) = stated ≡ Some (Check TooMany)
IsExecFaultOr stated (Check TooLarge) = stated ≡ Some (Check TooLarge)
IsExecFaultOr stated (Check Device) = stated ≡ Some (Check Device)
IsExecFaultOr stated (Check NoMemory) = Unit {0}

-- the line that tells it, and the status
abbrev pub exec_fault_line : ExecFault → List ℕ
exec_fault_line BadTable = codes "gqls: bad table\n"
exec_fault_line BadVariables = codes "gqls: bad vars\n"
exec_fault_line (Check fault) = fault_line fault

abbrev pub exec_fault_status : ExecFault → ℕ
exec_fault_status BadTable = 2
exec_fault_status BadVariables = 2
exec_fault_status (Check fault) = 3

-- what it comes to: a refusal, what is wrong with the project, or a response
pub data ExecOutcome : Type 0 where
  refused : ExecFault → ExecOutcome
  told : List Found → ExecOutcome
  responded : ResponseOf → ExecOutcome

-- the response to the operation of that name over the rows and for the values that the bytes hold
pub record Responds (name : Option Text) (table variables : Option (List ℕ)) (files : List File) (response : ResponseOf) : Type 0 where
  pub rows : List RowOf
  pub rows_are : option_and_then rows_in table ≡ Some rows
  pub raw : Values
  pub raw_is : option_and_then variables_in variables ≡ Some raw
  pub executed : IsExecuted (documents_of files) rows name raw response

abbrev pub IsExecOutcome : Option Text → (table variables : Option (List ℕ)) → List File → ExecOutcome → Type 0
IsExecOutcome name table variables files (refused fault) = IsExecFaultOr (exec_fault table variables files) fault
IsExecOutcome name table variables files (told found) = (exec_fault table variables files ≡ None) × IsInvalid (documents_of files) × IsReportOf (documents_of files) found
IsExecOutcome name table variables files (responded response) = (exec_fault table variables files ≡ None) × ∥ IsValid (documents_of files) ∥₁ × Responds name table variables files response

-- what is written to standard output, and to standard error behind what `--verbose` adds
abbrev pub exec_output : List File → ExecOutcome → List ℕ
exec_output files (refused fault) = []
exec_output files (told found) = printed_all format.Text (documents_of files) found
exec_output files (responded response) = response_text response ++ codes "\n"

abbrev pub exec_error : ExecOutcome → List ℕ
exec_error (refused fault) = exec_fault_line fault
exec_error (told found) = []
exec_error (responded response) = []

abbrev pub exec_status : ExecOutcome → ℕ
exec_status (refused fault) = exec_fault_status fault
exec_status (told found) = 1
exec_status (responded response) = 0

-- what `--verbose` adds to an outcome
abbrev pub IsReasonOf : (is_verbose : Bool) → (table variables : File) → List File → ExecOutcome → List ℕ → Type 0
IsReasonOf is_verbose table variables files (refused fault) reason = IsExecReason is_verbose table variables files fault reason
IsReasonOf is_verbose table variables files (told found) reason = reason ≡ []
IsReasonOf is_verbose table variables files (responded response) reason = reason ≡ []

-- an execution: an outcome, and what was written of it
pub record Executes (is_verbose : Bool) (name : Option Text) (table variables : File) (files : List File) (out_held : Option (List ℕ)) (out : SinkAfter) (err_held : Option (List ℕ)) (err : SinkAfter) (status : ℕ) : Type 0 where
  pub outcome : ExecOutcome
  pub is_outcome : IsExecOutcome name (content_of table) (content_of variables) files outcome
  pub reason : List ℕ
  pub is_reason : IsReasonOf is_verbose table variables files outcome reason
  pub ends : EndsWith (exec_output files outcome) (reason ++ exec_error outcome) (exec_status outcome) out_held out err_held err status

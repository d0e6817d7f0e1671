-- What `--verbose` says of a table and of variables: in words, why bytes are none.
use Rattle.std.specs.Prelude.{◌≡◌, ℕ, ◌+◌, Bool, true, false, List, [], ◌++◌, Option, Some, None, Vec, codes, decimal, is_none, nat_lt, option_and_then, if◌then◌else◌}
use Rattle.std.specs.Option.{option_map}
use Rattle.std.specs.declared.alloc.Global.{Global}
use Rattle.serde_json.specs.Data.{Data, Items, no_items, item}
use Rattle.serde_json.specs.Find.{get, as_str, as_number, as_u64, as_array, as_object}
use Rattle.gq_rpc.specs.Decoding.{body_value}
use Rattle.gq_table.specs.Json.{member_count, row_in}
use Rattle.gq_check.specs.declared.fault.CheckFault.TheVariants.{TooMany, TooLarge, Device, NoMemory}
use Rattle.gq_check.specs.declared.exec_fault.ExecFault.{ExecFault}
use Rattle.gq_check.specs.declared.exec_fault.ExecFault.TheVariants.{BadTable, BadVariables, Check}
use Rattle.gq_check.specs.declared.files.File.{File}
use Rattle.gq_check.specs.Files.{content_of}
use Rattle.gq_check.specs.Reasons.{reason_line, files_reason}

-- ---- a table

-- what is wrong with a row that alone makes no table: the first of these that holds
abbrev pub row_flaw : Data → List ℕ
row_flaw row =
    if is_none (as_object row) then codes "no object"
    else (if is_none (option_and_then as_str (get (codes "type") row)) then codes "`type` is no string"
    else (if is_none (option_and_then as_u64 (option_and_then as_number (get (codes "object") row))) then codes "`object` is no number from 0 on"
    else (if is_none (option_and_then as_str (get (codes "field") row)) then codes "`field` is no string"
    else (if is_none (option_and_then as_object (get (codes "args") row)) then codes "`args` is no object"
    else (if is_none (get (codes "result") row) then codes "no `result`"
    else (if nat_lt 5 (member_count row) then codes "other members than `type`, `object`, `field`, `args` and `result`"
    else codes "`args` or `result` is of no form that there is"))))))

-- what is said of a row of that number
abbrev pub numbered_flaw : ℕ → Data → List ℕ
numbered_flaw number row = codes "row " ++ decimal number ++ codes ": " ++ row_flaw row

-- what is wrong with the first of these rows that alone makes no table, where the first of all has that number
abbrev pub rows_flaw : ℕ → Items → Option (List ℕ)
rows_flaw number no_items = None
rows_flaw number (item row rows) = if is_none (row_in row) then Some (numbered_flaw number row) else rows_flaw (number + 1) rows

-- what else is wrong, with rows of which each makes a table
abbrev pub whole_flaw : Data → List ℕ
whole_flaw json = if nat_lt 1 (member_count json) then codes "other members beside `rows`" else codes "two rows are for one call"

abbrev pub flaw_or : Option (List ℕ) → List ℕ → List ℕ
flaw_or (Some flaw) later = flaw
flaw_or None later = later

-- what is wrong with JSON whose member `rows` is this list, or none
abbrev pub listed_flaw : Data → Option Items → List ℕ
listed_flaw json None = codes "no object with a list `rows`"
listed_flaw json (Some rows) = flaw_or (rows_flaw 1 rows) (whole_flaw json)

-- what is wrong with JSON that is no table
abbrev pub table_flaw : Data → List ℕ
table_flaw json = listed_flaw json (option_and_then as_array (get (codes "rows") json))

-- why bytes are no table: where they are no JSON what its reader says, which stays open, else what is wrong with the JSON
abbrev pub IsTableWhy : Option Data → List ℕ → Type 0
IsTableWhy None why = Unit {0}
IsTableWhy (Some json) why = why ≡ table_flaw json

-- ---- variables

-- what is wrong with JSON that is no variables
abbrev pub variables_flaw : Data → List ℕ
variables_flaw json = if is_none (as_object json) then codes "no object" else codes "a number that is no integer of 64 bits stands as text there"

-- why bytes are no variables
abbrev pub IsVariablesWhy : Option Data → List ℕ → Type 0
IsVariablesWhy None why = Unit {0}
IsVariablesWhy (Some json) why = why ≡ variables_flaw json

-- ---- what is said of an execution that is refused

-- the line of a table that is bad, and of variables that are
pub record TellsTable (name bytes reason : List ℕ) : Type 0 where
  pub why : List ℕ
  pub is_why : IsTableWhy (body_value bytes) why
  pub line : reason ≡ reason_line name why

pub record TellsVariables (name bytes reason : List ℕ) : Type 0 where
  pub why : List ℕ
  pub is_why : IsVariablesWhy (body_value bytes) why
  pub line : reason ≡ reason_line name why

-- nothing of a file without bytes, which has another fault
abbrev pub IsTableReason : List ℕ → Option (List ℕ) → List ℕ → Type 0
IsTableReason name None reason = reason ≡ []
IsTableReason name (Some bytes) reason = TellsTable name bytes reason

abbrev pub IsVariablesReason : List ℕ → Option (List ℕ) → List ℕ → Type 0
IsVariablesReason name None reason = reason ≡ []
IsVariablesReason name (Some bytes) reason = TellsVariables name bytes reason

-- the line of a file that could not be read, else what is said later
abbrev pub unread_line : (name why : List ℕ) → Option (Vec ℕ Global) → List ℕ → List ℕ
unread_line name why None later = reason_line name why
unread_line name why (Some bytes) later = later

abbrev pub unread_or : File → List ℕ → List ℕ
unread_or file later = unread_line file.name file.why file.bytes later

-- what is said of a table, of variables and of files the first of which cannot be read, or is no file of a project
abbrev pub inputs_reason : (table variables : File) → List File → List ℕ
inputs_reason table variables files = unread_or table (unread_or variables (files_reason files))

-- what is said of an execution that this fault refuses: nothing of want of memory, and nothing without `--verbose`
abbrev pub IsExecReason : (is_verbose : Bool) → (table variables : File) → List File → ExecFault → List ℕ → Type 0
IsExecReason false table variables files fault reason = reason ≡ []
IsExecReason true table variables files BadTable reason = IsTableReason table.name (content_of table) reason
IsExecReason true table variables files BadVariables reason = IsVariablesReason variables.name (content_of variables) reason
IsExecReason true table variables files (Check TooMany) reason = reason ≡ inputs_reason table variables files
IsExecReason true table variables files (Check TooLarge) reason = reason ≡ inputs_reason table variables files
IsExecReason true table variables files (Check Device) reason = reason ≡ inputs_reason table variables files
IsExecReason true table variables files (Check NoMemory) reason = reason ≡ []

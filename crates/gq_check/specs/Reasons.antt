-- What `--verbose` adds: a line on standard error, in front of the one that tells the fault of files.
use Rattle.std.specs.Prelude.{ℕ, Bool, true, false, List, [], ◌∷◌, ◌++◌, length, Option, Some, None, Vec, codes, nat_lt, if◌then◌else◌}
use Rattle.std.specs.Str.{is_utf8}
use Rattle.std.specs.declared.alloc.Global.{Global}
use Rattle.gq_check.specs.declared.fault.CheckFault.{CheckFault}
use Rattle.gq_check.specs.declared.fault.CheckFault.TheVariants.{TooMany, TooLarge, Device, NoMemory}
use Rattle.gq_check.specs.declared.files.File.{File}
use Rattle.gq_check.specs.Files.{distinct}

-- the line: the name of the file that is at fault, and why
abbrev pub reason_line : List ℕ → List ℕ → List ℕ
reason_line name why = codes "gqls: " ++ name ++ codes ": " ++ why ++ codes "\n"

-- why a file is none of a project: what was said where it could not be read, else its size, else that it is no text
abbrev pub bytes_flaw : List ℕ → Option (Vec ℕ Global) → Option (List ℕ)
bytes_flaw why None = Some why
bytes_flaw why (Some bytes) = if nat_lt 4194304 (length bytes.items) then Some (codes "more than 4 MiB") else if is_utf8 bytes.items then None else Some (codes "not UTF-8")

abbrev pub file_flaw : File → Option (List ℕ)
file_flaw file = bytes_flaw file.why file.bytes

-- the line of a file with a flaw, else what is said later
abbrev pub reason_or : List ℕ → Option (List ℕ) → List ℕ → List ℕ
reason_or name (Some why) later = reason_line name why
reason_or name None later = later

-- the line of the first file that has one
abbrev pub first_reason : List File → List ℕ
first_reason [] = []
first_reason (file ∷ files) = reason_or file.name (file_flaw file) (first_reason files)

-- that of files; none where there are too many
abbrev pub files_reason : List File → List ℕ
files_reason files = if nat_lt 4096 (length (distinct files)) then [] else first_reason (distinct files)

-- what is said of files that this fault refuses: nothing of want of memory, and nothing without `--verbose`
abbrev pub refusal_reason : (is_verbose : Bool) → List File → CheckFault → List ℕ
refusal_reason false files fault = []
refusal_reason true files TooMany = files_reason files
refusal_reason true files TooLarge = files_reason files
refusal_reason true files Device = files_reason files
refusal_reason true files NoMemory = []

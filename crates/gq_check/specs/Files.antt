-- Files of the command line: those that count, what is wrong with them, and the documents that they are.
use Rattle.std.specs.Prelude.{ℕ, pos, List, [], ◌∷◌, ◌++◌, length, Option, Some, None, Vec, nat_lt, if◌then◌else◌}
use Rattle.std.specs.List.{list_any}
use Rattle.std.specs.Option.{option_map}
use Rattle.std.specs.Str.{bytes_eq, is_utf8}
use Rattle.std.specs.declared.alloc.Global.{Global}
use Rattle.gq_project.specs.Documents.{with_doc}
use Rattle.gq_project.specs.declared.document.Doc.{Doc}
use Rattle.gq_check.specs.declared.fault.CheckFault.{CheckFault}
use Rattle.gq_check.specs.declared.fault.CheckFault.TheVariants.{TooMany, TooLarge, Device}
use Rattle.gq_check.specs.declared.files.File.{File}

-- the files whose names are none of `seen` and stand in no earlier one
abbrev pub distinct_after : List (List ℕ) → List File → List File
distinct_after seen [] = []
distinct_after seen (file ∷ files) = (if list_any (bytes_eq file.name) seen then [] else file ∷ []) ++ distinct_after (seen ++ file.name ∷ []) files

-- each name once, where it first stands
abbrev pub distinct : List File → List File
distinct files = distinct_after [] files

-- what is wrong with a file: it cannot be read, it has more than 4 MiB, or it is not UTF-8; its size comes first
abbrev pub bytes_fault : Option (Vec ℕ Global) → Option CheckFault
bytes_fault None = Some Device
bytes_fault (Some bytes) = if nat_lt 4194304 (length bytes.items) then Some TooLarge else if is_utf8 bytes.items then None else Some Device

abbrev pub file_fault : File → Option CheckFault
file_fault file = bytes_fault file.bytes

-- the first of two faults
abbrev pub fault_or : Option CheckFault → Option CheckFault → Option CheckFault
fault_or (Some fault) later = Some fault
fault_or None later = later

-- the fault of the first file that has one
abbrev pub first_fault : List File → Option CheckFault
first_fault [] = None
first_fault (file ∷ files) = fault_or (file_fault file) (first_fault files)

-- what is wrong with files: more than 4,096 names, else the first fault
abbrev pub files_fault : List File → Option CheckFault
files_fault files = if nat_lt 4096 (length (distinct files)) then Some TooMany else first_fault (distinct files)

-- the bytes of a file that could be read
abbrev pub content_of : File → Option (List ℕ)
content_of file = option_map (λ (bytes : Vec ℕ Global). bytes.items) file.bytes

-- the bytes of a file
abbrev pub bytes_in : Option (Vec ℕ Global) → List ℕ
bytes_in None = []
bytes_in (Some bytes) = bytes.items

-- the document that a file is
abbrev pub doc_of : File → Doc
doc_of file = record { key = file.name; uri = file.name; version = Some (pos 1); text = bytes_in file.bytes }

-- these documents with those of files
abbrev pub documents_of_each : List Doc → List File → List Doc
documents_of_each documents [] = documents
documents_of_each documents (file ∷ files) = documents_of_each (with_doc documents (doc_of file)) files

-- the documents of a project of files: one of each name, in the order of names
abbrev pub documents_of : List File → List Doc
documents_of files = documents_of_each [] (distinct files)

-- What is told of a fault.
use Rattle.std.specs.Prelude.{ℕ, List, [], map, filter, length, nat_lt, slice_index_or}
use Rattle.gq_project.specs.declared.document.Doc.{Doc}
use Rattle.gq_fault.specs.declared.found.Found.{Found}
use Rattle.gq_fault.specs.declared.fault.Fault.{Fault}

-- the key of a document, by its number
abbrev pub key_of : List Doc → ℕ → List ℕ
key_of documents file = slice_index_or (map (λ document. document.key) documents) file []

-- the key of the fault's document, its place and its code
abbrev pub found_of : List Doc → Fault → Found
found_of documents fault = record { key = key_of documents fault.file; span = record { start = fault.start; end = fault.end }; code = fault.code }

-- what is told of faults, in order; a fault of no document is passed over
abbrev pub told : List Doc → List Fault → List Found
told documents faults = map (found_of documents) (filter (λ fault. nat_lt fault.file (length documents)) faults)

-- One file of a project: its operations and fragments over a type system, and what is told of it.
use Rattle.std.specs.Prelude.{◌≡◌, ℕ, true, false, List, Some, slice_get}
use Rattle.gq_fault.specs.declared.fault.Fault.{Fault}
use Rattle.gq_tree.specs.Readings.{ParsedOf, in_document}
use Rattle.gq_types.specs.Entries.{EntryOf}
use Rattle.gq_document.specs.Definitions.{operation_in, fragment_in, operations_of, fragments_of}
use Rattle.gq_document.specs.Executable.{ExecutableOf}
use Rattle.gq_rules.specs.RuleFaults.{IsRuleFault}
use Rattle.gq_rules.specs.RestsOnFile.{rests_on_file}

-- a file of that number alone
abbrev pub alone : List EntryOf → ℕ → ParsedOf → ExecutableOf
alone es n r = record { entries = es; operations = in_document operation_in n r; fragments = in_document fragment_in n r }

-- all files together
abbrev pub together : List EntryOf → List ParsedOf → ExecutableOf
together es rs = record { entries = es; operations = operations_of rs; fragments = fragments_of rs }

-- the same fault in the file of another number
abbrev pub in_file : ℕ → Fault → Fault
in_file n f = record f { file = n }

-- a fault of a rule that rests on one file, and one that does not
abbrev pub IsLocalFault : ExecutableOf → Fault → Type 0
IsLocalFault x f = (rests_on_file f.code ≡ true) × IsRuleFault x f

abbrev pub IsFaultAcross : ExecutableOf → Fault → Type 0
IsFaultAcross x f = (rests_on_file f.code ≡ false) × IsRuleFault x f

-- what the file of the fault tells alone
abbrev pub IsOfItsFile : List EntryOf → List ParsedOf → Fault → Type 0
IsOfItsFile es rs f = (r : ParsedOf) × (slice_get rs f.file ≡ Some r) × IsLocalFault (alone es f.file r) f

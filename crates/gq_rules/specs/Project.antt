-- What is read of a project: its type system, with what is built in, and its executable definitions.
use Rattle.std.specs.Prelude.{◌++◌, List}
use Rattle.gq_tree.specs.Readings.{ParsedOf}
use Rattle.gq_types.specs.Entries.{EntryOf, entries_view}
use Rattle.gq_types.specs.BuiltIn.{built_in}
use Rattle.gq_types.specs.declared.entry.Entry.{Entry}
use Rattle.gq_document.specs.Definitions.{entries_of, operations_of, fragments_of}
use Rattle.gq_document.specs.Executable.{ExecutableOf}

abbrev pub type_system_of : List ParsedOf → List EntryOf
type_system_of readings = built_in ++ entries_of readings

abbrev pub executable_of : List ParsedOf → ExecutableOf
executable_of readings = record { entries = type_system_of readings; operations = operations_of readings; fragments = fragments_of readings }

-- the same of definitions of the type system in the code, and of what executable documents are read as
abbrev pub defined_in : List Entry → List ParsedOf → ExecutableOf
defined_in es readings = record { entries = built_in ++ entries_view es; operations = operations_of readings; fragments = fragments_of readings }

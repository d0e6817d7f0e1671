-- The executable definitions of a project over its type system (sections 2.2 and 5).
use Rattle.std.specs.Prelude.{List}
use Rattle.gq_types.specs.Entries.{EntryOf}
use Rattle.gq_types.specs.Look.{types_view}
use Rattle.gq_document.specs.Definitions.{OperationOf, FragmentOf, operations_view, fragments_view}
use Rattle.gq_document.specs.Selections.{SelectedOf, IsSelected}
use Rattle.gq_document.specs.declared.executable.Executable.{Executable}

pub record ExecutableOf : Type 0 where
  pub entries : List EntryOf
  pub operations : List OperationOf
  pub fragments : List FragmentOf

-- a selection of an operation or of a fragment of it
abbrev pub Selects : ExecutableOf → SelectedOf → Type 0
Selects x s = IsSelected x.entries x.operations x.fragments s

-- what the code's operations and fragments stand for
abbrev pub executable_view : Executable → ExecutableOf
executable_view x = record { entries = types_view x.types.now; operations = operations_view x.operations.now; fragments = fragments_view x.fragments.now }

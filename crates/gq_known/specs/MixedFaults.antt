-- The faults of mixed documents, computed.
use Rattle.std.specs.Prelude.{ℕ, ◌+◌, List, [], ◌∷◌, ◌++◌, Option, Some, None, if◌then◌else◌}
use Rattle.std.specs.List.{list_any}
use Rattle.gq_text.specs.declared.place.Span.{Span}
use Rattle.gq_tree.specs.Plain.{Def, TypeSystemOf}
use Rattle.gq_tree.specs.Readings.{ParsedOf, definitions_read}
use Rattle.gq_fault.specs.declared.code.Code.TheVariants.{MixedFile}
use Rattle.gq_fault.specs.declared.fault.Fault.{Fault}
use Rattle.gq_fault.specs.FaultPlaces.{fault_over}
use Rattle.gq_type_system.specs.DefinedTwice.{definition_place}
use Rattle.gq_known.specs.ExecutableDefinitions.{is_executable, first_of_type_system}

abbrev pub mixed_fault : ℕ → Option (TypeSystemOf Span) → List Fault
mixed_fault file None = []
mixed_fault file (Some definition) = fault_over file MixedFile (definition_place definition) ∷ []

abbrev pub mixed_in : ℕ → List (Def Span) → List Fault
mixed_in file ds = if list_any is_executable ds then mixed_fault file (first_of_type_system ds) else []

abbrev pub mixed_at : ℕ → ParsedOf → List Fault
mixed_at file reading = mixed_in file (definitions_read reading)

-- what is told of each reading, the first of which has that number
abbrev pub each_from : (ℕ → ParsedOf → List Fault) → ℕ → List ParsedOf → List Fault
each_from f file [] = []
each_from f file (r ∷ rs) = f file r ++ each_from f (file + 1) rs

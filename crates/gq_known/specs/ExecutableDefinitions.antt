-- Executable Definitions (section 5.1.1): a document that is executed holds operations and fragments alone. Here a
-- document with an operation or a fragment has no definition or extension of the type system.
use Rattle.std.specs.Prelude.{◌≡◌, ℕ, Bool, true, false, List, [], ◌∷◌, Option, Some, None, slice_get}
use Rattle.std.specs.List.{list_any}
use Rattle.gq_text.specs.declared.place.Span.{Span}
use Rattle.gq_tree.specs.Plain.{Def, operation, fragment, type_system, TypeSystemOf}
use Rattle.gq_fault.specs.declared.code.Code.TheVariants.{MixedFile}
use Rattle.gq_fault.specs.declared.fault.Fault.{Fault}
use Rattle.gq_tree.specs.Readings.{ParsedOf, definitions_read}
use Rattle.gq_fault.specs.FaultPlaces.{fault_over}
use Rattle.gq_type_system.specs.DefinedTwice.{definition_place}

-- an operation or a fragment
abbrev pub is_executable : Def Span → Bool
is_executable (operation kind name variables directives set braces place) = true
is_executable (fragment name on directives set braces place) = true
is_executable (type_system definition) = false

-- the first definition or extension of the type system among definitions
abbrev pub first_of_type_system : List (Def Span) → Option (TypeSystemOf Span)
first_of_type_system [] = None
first_of_type_system (operation kind name variables directives set braces place ∷ ds) = first_of_type_system ds
first_of_type_system (fragment name on directives set braces place ∷ ds) = first_of_type_system ds
first_of_type_system (type_system definition ∷ ds) = Some definition

-- the document has both; it is told at the first one of the type system
pub record IsMixed (readings : List ParsedOf) (fault : Fault) : Type 0 where
  pub file : ℕ
  pub reading : ParsedOf
  pub at : slice_get readings file ≡ Some reading
  pub executable : list_any is_executable (definitions_read reading) ≡ true
  pub definition : TypeSystemOf Span
  pub first : first_of_type_system (definitions_read reading) ≡ Some definition
  pub is : fault ≡ fault_over file MixedFile (definition_place definition)

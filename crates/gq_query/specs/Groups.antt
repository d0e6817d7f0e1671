-- Where a variable is defined and used in the definitions of its group (sections 2.10 and 5.8.3).
use Rattle.std.specs.Prelude.{◌≡◌, ℕ, ◌<◌, List, Option, Some, None, Contains, find, bytes_eq, slice_get, option_and_then}
use Rattle.gq_text.specs.declared.place.Span.{Span}
use Rattle.gq_tree.specs.Plain.{NameOf, VariableOf, Def, operation, fragment, type_system}
use Rattle.gq_types.specs.Entries.{Text}
use Rattle.gq_index.specs.declared.occurrence.Occurrence.{Occurrence}
use Rattle.gq_index.specs.Occurrences.{DefinitionOf, occurrences_of}
use Rattle.gq_index.specs.VariableGroups.{VariableGroup}

-- The variable is one of some names of a definition that is in its group with the definition of that number, and stands
-- there.
pub record StandsInGroup (names : Def Span → List (NameOf Span)) (ds : List DefinitionOf) (text : Text) (n : ℕ) (o : Occurrence) : Type 0 where
  pub number : ℕ
  pub in_group : VariableGroup ds text n number
  pub definition : DefinitionOf
  pub at : slice_get ds number ≡ Some definition
  pub stands : Contains (occurrences_of definition.file text (names definition.definition)) o

-- the first variable of that name that a definition defines
abbrev pub variable_in : Text → Def Span → Option (VariableOf Span)
variable_in text (operation kind name variables directives set braces place) = find (λ v. bytes_eq text v.name.text) variables
variable_in text (fragment name on directives set braces place) = None
variable_in text (type_system definition) = None

-- that of the definition with that number
abbrev pub variable_at : List DefinitionOf → Text → ℕ → Option (VariableOf Span)
variable_at ds text number = option_and_then (λ d. variable_in text d.definition) (slice_get ds number)

-- The first of those in the group that the variable has in the definition of that number, in the order of documents and
-- places; none where no operation of the group defines the variable.
pub data IsFirstInGroup (ds : List DefinitionOf) (text : Text) (n : ℕ) (first : Option (VariableOf Span)) : Type 0 where
  here : {number : ℕ} {v : VariableOf Span} → VariableGroup ds text n number → variable_at ds text number ≡ Some v →
      ((earlier : ℕ) → earlier < number → VariableGroup ds text n earlier → variable_at ds text earlier ≡ None) → first ≡ Some v → IsFirstInGroup ds text n first
  nowhere : ((number : ℕ) → VariableGroup ds text n number → variable_at ds text number ≡ None) → first ≡ None → IsFirstInGroup ds text n first

-- The faults of variables, computed.
use Rattle.std.specs.Prelude.{◌≡◌, ◌↔◌, ℕ, ◌<◌, Bool, false, List, [], ◌∷◌, ◌++◌, Some, Contains, map, flat_map, find, slice_get, if◌then◌else◌, not, ◌&&◌, ◌||◌}
use Rattle.std.specs.Option.{option_map_or}
use Rattle.std.specs.List.{list_any}
use Rattle.std.specs.Str.{bytes_eq}
use Rattle.gq_text.specs.declared.place.Span.{Span}
use Rattle.gq_tree.specs.Plain.{TypeOf, named, list_of, non_null, VariableOf}
use Rattle.gq_names.specs.Repeats.{repeated_after}
use Rattle.gq_fault.specs.declared.code.Code.TheVariants.{VariableNotUnique, VariableNotOfInputType, VariableNotDefined, VariableNotUsed, VariableNotAllowedHere}
use Rattle.gq_fault.specs.declared.fault.Fault.{Fault}
use Rattle.gq_types.specs.Entries.{Text, EntryOf}
use Rattle.gq_types.specs.Joined.{kind_named}
use Rattle.gq_types.specs.Kinds.{is_input}
use Rattle.gq_values.specs.Literals.{Expected, at_type, at_any}
use Rattle.gq_tree.specs.Wrapping.{is_non_null}
use Rattle.gq_fault.specs.FaultPlaces.{fault_at}
use Rattle.gq_document.specs.Definitions.{OperationOf}
use Rattle.gq_tree.specs.NamedTypes.{base_name}
use Rattle.gq_variables.specs.Uses.{PlaceOf, UseOf}
use Rattle.gq_document.specs.Executable.{ExecutableOf}
use Rattle.gq_variables.specs.VariableFaults.{IsFaultOfOperation}
use Rattle.gq_variables.specs.AllVariableUsagesAreAllowed.{is_value, is_known}

abbrev pub variable_texts : List (VariableOf Span) → List Text
variable_texts variables = map (λ v. v.name.text) variables

abbrev pub use_texts : List UseOf → List Text
use_texts uses = map (λ u. u.name.text) uses

-- the variables whose name is one of `before`, or an earlier one has
abbrev pub repeated_variables : List Text → List (VariableOf Span) → List (VariableOf Span)
repeated_variables before variables = repeated_after (λ v. v.name.text) before variables

-- 5.8.1
abbrev pub not_unique : ℕ → List (VariableOf Span) → List Fault
not_unique file repeated = map (λ v. fault_at file VariableNotUnique v.name) repeated

-- 5.8.2
abbrev pub names_input_type : List EntryOf → Text → Bool
names_input_type es text = option_map_or is_input (kind_named es text) false

abbrev pub not_of_input_type_at : List EntryOf → ℕ → VariableOf Span → List Fault
not_of_input_type_at es file v = if names_input_type es (base_name v.type_ref) then [] else fault_at file VariableNotOfInputType v.name ∷ []

abbrev pub not_of_input_type : List EntryOf → ℕ → List (VariableOf Span) → List Fault
not_of_input_type es file variables = flat_map (not_of_input_type_at es file) variables

-- 5.8.3
abbrev pub not_defined_at : List Text → UseOf → List Fault
not_defined_at names u = if list_any (bytes_eq u.name.text) names then [] else fault_at u.file VariableNotDefined u.name ∷ []

abbrev pub not_defined : List Text → List UseOf → List Fault
not_defined names uses = flat_map (not_defined_at names) uses

-- 5.8.4
abbrev pub not_used_at : ℕ → List Text → VariableOf Span → List Fault
not_used_at file used v = if list_any (bytes_eq v.name.text) used then [] else fault_at file VariableNotUsed v.name ∷ []

abbrev pub not_used : ℕ → List Text → List (VariableOf Span) → List Fault
not_used file used variables = flat_map (not_used_at file used) variables

-- 5.8.5
abbrev pub are_compatible : (variable location : TypeOf Span) → Bool
are_compatible (named v) (named l) = bytes_eq v.text l.text
are_compatible (named v) (list_of l) = false
are_compatible (named v) (non_null l) = false
are_compatible (list_of v) (named l) = false
are_compatible (list_of v) (list_of l) = are_compatible v l
are_compatible (list_of v) (non_null l) = false
are_compatible (non_null v) (named l) = are_compatible v (named l)
are_compatible (non_null v) (list_of l) = are_compatible v (list_of l)
are_compatible (non_null v) (non_null l) = are_compatible v l

-- whether a default lets a nullable variable stand at a type without null
abbrev pub defaults : VariableOf Span → Bool → Bool
defaults v place_has_default = not (is_non_null v.type_ref) && (is_value v.default || place_has_default)

abbrev pub is_allowed : VariableOf Span → Bool → TypeOf Span → Bool
is_allowed v place_has_default (named l) = are_compatible v.type_ref (named l)
is_allowed v place_has_default (list_of l) = are_compatible v.type_ref (list_of l)
is_allowed v place_has_default (non_null l) = if defaults v place_has_default then are_compatible v.type_ref l else are_compatible v.type_ref (non_null l)

abbrev pub is_wrong_type : List EntryOf → VariableOf Span → Bool → TypeOf Span → Bool
is_wrong_type es v place_has_default location = is_known es v.type_ref && (is_known es location && not (is_allowed v place_has_default location))

abbrev pub is_wrong_reading : List EntryOf → VariableOf Span → Bool → Expected → Bool
is_wrong_reading es v place_has_default (at_type location) = is_wrong_type es v place_has_default location
is_wrong_reading es v place_has_default at_any = false

-- whether the variable may not stand at the place
abbrev pub is_wrong_at : List EntryOf → PlaceOf → VariableOf Span → Bool
is_wrong_at es place v = is_wrong_reading es v place.has_default place.reading

-- the same for a variable that has the name of the use
abbrev pub is_wrong_for : List EntryOf → UseOf → VariableOf Span → Bool
is_wrong_for es u v = bytes_eq u.name.text v.name.text && is_wrong_at es u.place v

-- the first variable of the name, and those that come again
abbrev pub first_is_wrong : List EntryOf → List (VariableOf Span) → UseOf → Bool
first_is_wrong es variables u = option_map_or (is_wrong_at es u.place) (find (λ v. bytes_eq u.name.text v.name.text) variables) false

abbrev pub is_misused : List EntryOf → (variables repeated : List (VariableOf Span)) → UseOf → Bool
is_misused es variables repeated u = first_is_wrong es variables u || list_any (is_wrong_for es u) repeated

abbrev pub not_allowed_at : List EntryOf → (variables repeated : List (VariableOf Span)) → UseOf → List Fault
not_allowed_at es variables repeated u = if is_misused es variables repeated u then fault_at u.file VariableNotAllowedHere u.name ∷ [] else []

abbrev pub not_allowed : List EntryOf → (variables repeated : List (VariableOf Span)) → List UseOf → List Fault
not_allowed es variables repeated uses = flat_map (not_allowed_at es variables repeated) uses

-- what is told of an operation's variables, and of these uses
abbrev pub definition_faults : List EntryOf → ℕ → (variables repeated : List (VariableOf Span)) → List Fault
definition_faults es file variables repeated = not_unique file repeated ++ not_of_input_type es file variables

abbrev pub definition_faults_of : List EntryOf → OperationOf → List Fault
definition_faults_of es o = definition_faults es o.file o.variables (repeated_variables [] o.variables)

abbrev pub use_faults : List EntryOf → (variables repeated : List (VariableOf Span)) → List UseOf → List Fault
use_faults es variables repeated uses = not_defined (variable_texts variables) uses ++ not_allowed es variables repeated uses

-- what is told of an operation that has all these uses, where what is told of uses is told of these alone
abbrev pub operation_faults : List EntryOf → OperationOf → (all told : List UseOf) → List Fault
operation_faults es o all told =
    definition_faults es o.file o.variables (repeated_variables [] o.variables) ++ (not_used o.file (use_texts all) o.variables ++ use_faults es o.variables (repeated_variables [] o.variables) told)

-- a fault of the operation of that number, and of one of an earlier number
pub record IsFaultAt (x : ExecutableOf) (number : ℕ) (item : Fault) : Type 0 where
  pub operation : OperationOf
  pub at : slice_get x.operations number ≡ Some operation
  pub fault : IsFaultOfOperation x operation item

pub record IsFaultBefore (x : ExecutableOf) (number : ℕ) (item : Fault) : Type 0 where
  pub earlier : ℕ
  pub is_earlier : earlier < number
  pub fault : IsFaultAt x earlier item

-- these are the faults of the operations before that number
abbrev pub AreFaultsBefore : ExecutableOf → ℕ → List Fault → Type 0
AreFaultsBefore x number faults = (fault : Fault) → Contains faults fault ↔ IsFaultBefore x number fault

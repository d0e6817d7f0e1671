-- The type of a variable must be compatible with the type of each place where the variable is used (section 5.8.5).
use Rattle.std.specs.Prelude.{◌≡◌, Bool, true, false, List, Option, Some, None, Contains, is_some, not, ◌||◌}
use Rattle.gq_text.specs.declared.place.Span.{Span}
use Rattle.gq_tree.specs.Plain.{NameOf, Val, TypeOf, named, list_of, non_null, VariableOf}
use Rattle.gq_fault.specs.declared.code.Code.TheVariants.{VariableNotAllowedHere}
use Rattle.gq_fault.specs.declared.fault.Fault.{Fault}
use Rattle.gq_types.specs.Entries.{EntryOf}
use Rattle.gq_types.specs.Joined.{kind_named}
use Rattle.gq_values.specs.Literals.{at_type}
use Rattle.gq_tree.specs.Wrapping.{is_non_null, is_null}
use Rattle.gq_fault.specs.FaultPlaces.{fault_at}
use Rattle.gq_document.specs.Definitions.{OperationOf}
use Rattle.gq_tree.specs.NamedTypes.{base_name}
use Rattle.gq_document.specs.Executable.{ExecutableOf}
use Rattle.gq_variables.specs.Uses.{UseOf}
use Rattle.gq_variables.specs.ReachedUses.{ReachesUse}

-- AreTypesCompatible: a value of the first type may stand where one of the second is wanted. Lists go by their items, and a
-- single item is no list.
pub data AreCompatible : (variable location : TypeOf Span) → Type 0 where
  both_non_null : {variable location : TypeOf Span} → AreCompatible variable location → AreCompatible (non_null variable) (non_null location)
  variable_non_null : {variable location : TypeOf Span} → is_non_null location ≡ false → AreCompatible variable location → AreCompatible (non_null variable) location
  both_lists : {variable location : TypeOf Span} → AreCompatible variable location → AreCompatible (list_of variable) (list_of location)
  same_name : {variable location : NameOf Span} → variable.text ≡ location.text → AreCompatible (named variable) (named location)

-- a default value that is not the literal null
abbrev pub is_value : Option (Val Span) → Bool
is_value None = false
is_value (Some value) = not (is_null value.label.says)

-- IsVariableUsageAllowed: a nullable variable may stand at a type without null where it has a default value other than
-- null, or the place has a default value, which may be null.
pub data IsAllowed (v : VariableOf Span) (place_has_default : Bool) : TypeOf Span → Type 0 where
  by_default : {location : TypeOf Span} →
      is_non_null v.type_ref ≡ false → (is_value v.default || place_has_default) ≡ true → AreCompatible v.type_ref location →
      IsAllowed v place_has_default (non_null location)
  by_type : {location : TypeOf Span} → AreCompatible v.type_ref location → IsAllowed v place_has_default location

-- whether the type inside lists and types without null is known
abbrev pub is_known : List EntryOf → TypeOf Span → Bool
is_known es t = is_some (kind_named es (base_name t))

-- a use at a type that does not allow a variable of its name; where one of the types is not known nothing is told
pub record IsNotAllowed (x : ExecutableOf) (o : OperationOf) (fault : Fault) : Type 0 where
  pub one : UseOf
  pub reached : ReachesUse x o one
  pub variable : VariableOf Span
  pub defined : Contains o.variables variable
  pub names_it : variable.name.text ≡ one.name.text
  pub location : TypeOf Span
  pub read_at : one.place.reading ≡ at_type location
  pub variable_known : is_known x.entries variable.type_ref ≡ true
  pub location_known : is_known x.entries location ≡ true
  pub not_allowed : IsAllowed variable one.place.has_default location → ⊥
  pub is : fault ≡ fault_at one.file VariableNotAllowedHere one.name

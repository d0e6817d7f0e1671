-- Variables whose names stand earlier too, found by their names.
use Rattle.std.specs.Prelude.{◌≡◌, Bool, true, List, [], ◌∷◌, flat_map, if◌then◌else◌, not, ◌&&◌, ◌||◌}
use Rattle.std.specs.Borrow.{Bor}
use Rattle.std.specs.List.{list_any}
use Rattle.std.specs.Str.{bytes_eq}
use Rattle.gq_text.specs.declared.place.Span.{Span}
use Rattle.gq_tree.specs.Plain.{VariableOf}
use Rattle.gq_tree.specs.NamedTypes.{base_name}
use Rattle.gq_tree.specs.declared.tree.VariableDefinition.{VariableDefinition}
use Rattle.gq_names.specs.UnderNames.{UnderNames, items_under}
use Rattle.gq_fault.specs.declared.code.Code.TheVariants.{VariableNotAllowedHere}
use Rattle.gq_fault.specs.declared.fault.Fault.{Fault}
use Rattle.gq_fault.specs.FaultPlaces.{fault_at}
use Rattle.gq_types.specs.Entries.{EntryOf}
use Rattle.gq_variables.specs.Uses.{PlaceOf, UseOf}
use Rattle.gq_variables.specs.AllVariableUsagesAreAllowed.{is_value, is_known}
use Rattle.gq_variables.specs.Helping.VariablePlaces.{are_compatible, is_wrong_at, first_is_wrong}
use Rattle.gq_variables.specs.Helping.Views.{variables_view}

-- The first is wrong wherever the other one is: that may stand where the type of the first is wanted, and has a default
-- value where the first has one.
abbrev pub covers : (one other : VariableOf Span) → Bool
covers one other = are_compatible other.type_ref one.type_ref && (is_value other.default || not (is_value one.default))

-- wherever the variable is wrong, one of these is
abbrev pub AddsNothing : List EntryOf → List (VariableOf Span) → VariableOf Span → Type 0
AddsNothing es known v = (place : PlaceOf) → is_wrong_at es place v ≡ true → list_any (is_wrong_at es place) known ≡ true

-- they name two types that are known
abbrev pub name_two_types : List EntryOf → (one other : VariableOf Span) → Bool
name_two_types es one other = is_known es one.type_ref && (is_known es other.type_ref && not (bytes_eq (base_name one.type_ref) (base_name other.type_ref)))

-- whether a variable that stands under the name of the use may not stand at its place
abbrev pub any_under : List EntryOf → UnderNames (Bor VariableDefinition) → UseOf → Bool
any_under es again u = list_any (is_wrong_at es u.place) (variables_view (items_under again u.name.text))

-- the faults of uses, where those of the variables that come again stand under their names
abbrev pub not_allowed_by_at : List EntryOf → List (VariableOf Span) → UnderNames (Bor VariableDefinition) → UseOf → List Fault
not_allowed_by_at es variables again u = if first_is_wrong es variables u || any_under es again u then fault_at u.file VariableNotAllowedHere u.name ∷ [] else []

abbrev pub not_allowed_by : List EntryOf → List (VariableOf Span) → UnderNames (Bor VariableDefinition) → List UseOf → List Fault
not_allowed_by es variables again uses = flat_map (not_allowed_by_at es variables again) uses

-- What is told of fragments, computed.
use Rattle.std.specs.Prelude.{ℕ, Bool, true, false, List, [], ◌∷◌, ◌++◌, Option, Some, None, map, filter, flat_map, is_some, not, if◌then◌else◌, ◌&&◌}
use Rattle.std.specs.List.{list_any}
use Rattle.std.specs.Str.{bytes_eq}
use Rattle.gq_text.specs.declared.place.Span.{Span}
use Rattle.gq_tree.specs.Forest.{labels}
use Rattle.gq_tree.specs.Plain.{NameOf, Head, field, spread, inline}
use Rattle.gq_names.specs.Repeats.{repeated_after}
use Rattle.gq_fault.specs.declared.code.Code.TheVariants.{FragmentNameNotUnique, UnknownTypeCondition, ConditionNotComposite, SpreadNotPossible}
use Rattle.gq_fault.specs.declared.fault.Fault.{Fault}
use Rattle.gq_types.specs.declared.entry.TypeKind.{TypeKind}
use Rattle.gq_types.specs.Entries.{Text, EntryOf}
use Rattle.gq_types.specs.Kinds.{is_composite}
use Rattle.gq_types.specs.Joined.{kind_named}
use Rattle.gq_types.specs.Helping.PossiblePlaces.{possible_texts}
use Rattle.gq_types.specs.SubtypesTests.{is_possible}
use Rattle.gq_document.specs.Definitions.{OperationOf, FragmentOf}
use Rattle.gq_document.specs.Selections.{SelectedOf, operation_selections, fragment_selections}
use Rattle.gq_document.specs.Executable.{ExecutableOf}
use Rattle.gq_fault.specs.FaultPlaces.{fault_over, fault_at, first_bytes}

abbrev pub repeated_names : (before : List Text) → List FragmentOf → List Fault
repeated_names before fs = map (λ f. fault_at f.file FragmentNameNotUnique f.name) (repeated_after (λ f. f.name.text) before fs)

-- of a type condition
abbrev pub condition_of_kind : ℕ → NameOf Span → Option TypeKind → List Fault
condition_of_kind file name None = fault_at file UnknownTypeCondition name ∷ []
condition_of_kind file name (Some kind) = if is_composite kind then [] else fault_at file ConditionNotComposite name ∷ []

abbrev pub condition_faults : List EntryOf → ℕ → NameOf Span → List Fault
condition_faults es file name = condition_of_kind file name (kind_named es name.text)

-- of the type conditions of selections
abbrev pub conditions_in : List EntryOf → ℕ → Head Span → List Fault
conditions_in es file (field alias name arguments directives braces place) = []
conditions_in es file (spread name directives place) = []
conditions_in es file (inline None directives braces place) = []
conditions_in es file (inline (Some condition) directives braces place) = condition_faults es file condition

-- those that stand in an operation, and in a fragment without its own
abbrev pub conditions_in_operation : List EntryOf → OperationOf → List Fault
conditions_in_operation es o = flat_map (conditions_in es o.file) (labels o.set)

abbrev pub conditions_in_fragment : List EntryOf → FragmentOf → List Fault
conditions_in_fragment es f = flat_map (conditions_in es f.file) (labels f.set)

abbrev pub condition_of_selected : List EntryOf → SelectedOf → List Fault
condition_of_selected es s = conditions_in es s.file s.selection.label

abbrev pub conditions_of_selections : List EntryOf → List SelectedOf → List Fault
conditions_of_selections es ss = flat_map (condition_of_selected es) ss

-- of the type conditions of fragments
abbrev pub condition_of_fragment : List EntryOf → FragmentOf → List Fault
condition_of_fragment es f = condition_faults es f.file f.on

abbrev pub conditions_of_fragments : List EntryOf → List FragmentOf → List Fault
conditions_of_fragments es fs = flat_map (condition_of_fragment es) fs

-- whether two types have a possible object type in common
abbrev pub share_object : List EntryOf → (one other : Text) → Bool
share_object es one other = list_any (is_possible es other) (possible_texts es one)

-- of spreads
abbrev pub is_impossible : List EntryOf → (parent condition : Text) → Bool
is_impossible es parent condition = is_some (kind_named es parent) && (is_some (kind_named es condition) && not (share_object es parent condition))

abbrev pub impossible_under : List EntryOf → ℕ → Span → Option Text → Text → List Fault
impossible_under es file place None condition = []
impossible_under es file place (Some parent) condition = if is_impossible es parent condition then fault_over file SpreadNotPossible place ∷ [] else []

abbrev pub impossible_in : List EntryOf → SelectedOf → Span → Text → List Fault
impossible_in es s place condition = impossible_under es s.file place s.parent condition

-- whether a fragment has that name, and a type condition that passes a test
abbrev pub is_on : (name : Text) → (Text → Bool) → FragmentOf → Bool
is_on name test f = bytes_eq name f.name.text && test f.on.text

abbrev pub some_condition : (Text → Bool) → List FragmentOf → (name : Text) → Bool
some_condition test fs name = list_any (is_on name test) fs

-- However many fragments have the name, there is one fault.
abbrev pub impossible_once : List EntryOf → List FragmentOf → ℕ → NameOf Span → Option Text → List Fault
impossible_once es fs file name None = []
impossible_once es fs file name (Some parent) = if some_condition (is_impossible es parent) fs name.text then fault_over file SpreadNotPossible name.place ∷ [] else []

abbrev pub impossible_spread : List EntryOf → List FragmentOf → SelectedOf → NameOf Span → List Fault
impossible_spread es fs s name = impossible_once es fs s.file name s.parent

abbrev pub impossible_by : List EntryOf → List FragmentOf → SelectedOf → Head Span → List Fault
impossible_by es fs s (field alias name arguments directives braces place) = []
impossible_by es fs s (spread name directives place) = impossible_spread es fs s name
impossible_by es fs s (inline None directives braces place) = []
impossible_by es fs s (inline (Some condition) directives braces place) = impossible_in es s (first_bytes 3 place) condition.text

abbrev pub impossible_at : List EntryOf → List FragmentOf → SelectedOf → List Fault
impossible_at es fs s = impossible_by es fs s s.selection.label

abbrev pub impossible_spreads : List EntryOf → List FragmentOf → List SelectedOf → List Fault
impossible_spreads es fs ss = flat_map (impossible_at es fs) ss

-- all selections
abbrev pub selections : ExecutableOf → List SelectedOf
selections x = flat_map (operation_selections x.entries) x.operations ++ flat_map (fragment_selections x.entries) x.fragments

-- those that are no fields, of which alone something is told
abbrev pub is_of_fragment : Head Span → Bool
is_of_fragment (field alias name arguments directives braces place) = false
is_of_fragment (spread name directives place) = true
is_of_fragment (inline on directives braces place) = true

abbrev pub of_fragments : List SelectedOf → List SelectedOf
of_fragments ss = filter (λ s. is_of_fragment s.selection.label) ss

-- of all type conditions
abbrev pub conditions_of_all : ExecutableOf → List Fault
conditions_of_all x = conditions_of_fragments x.entries x.fragments ++ conditions_of_selections x.entries (selections x)

-- of all rules
abbrev pub faults_of_selections : ExecutableOf → List SelectedOf → List Fault
faults_of_selections x ss = conditions_of_selections x.entries ss ++ impossible_spreads x.entries x.fragments ss

abbrev pub fragment_faults : ExecutableOf → List Fault
fragment_faults x = repeated_names [] x.fragments ++ (conditions_of_fragments x.entries x.fragments ++ faults_of_selections x (selections x))

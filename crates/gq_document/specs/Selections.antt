-- The selections of operations and fragments, each with the type of its parent (section 5.3).
use Rattle.gq_tree.specs.NamedTypes.{base_name}
use Rattle.std.specs.Prelude.{◌≡◌, ℕ, Bool, false, List, [], ◌∷◌, ◌++◌, Option, Some, None, Contains, codes, bytes_eq, if◌then◌else◌, option_and_then}
use Rattle.std.specs.Option.{option_map, option_map_or}
use Rattle.gq_text.specs.declared.place.Span.{Span}
use Rattle.gq_tree.specs.Forest.{none, more}
use Rattle.gq_tree.specs.Plain.{TypeOf, InputOf, Head, field, spread, inline, Sel, Sels, Def, operation, fragment, type_system}
use Rattle.gq_types.specs.Entries.{Text, EntryOf}
use Rattle.gq_types.specs.Kinds.{is_composite}
use Rattle.gq_types.specs.Joined.{kind_named}
use Rattle.gq_types.specs.Names.{field_named}
use Rattle.gq_types.specs.Typename.{typename_type}
use Rattle.gq_types.specs.Roots.{root_of}
use Rattle.gq_document.specs.Definitions.{OperationOf, FragmentOf}

-- What is asked of the definition of a field: its type and its arguments.
pub record FieldOf : Type 0 where
  pub type_ref : TypeOf Span
  pub arguments : List (InputOf Span)

-- `__typename` is a field of every composite type (section 4.4)
abbrev pub typename : Text
typename = codes "__typename"

abbrev pub typename_field : FieldOf
typename_field = record { type_ref = typename_type; arguments = [] }

abbrev pub is_composite_named : List EntryOf → Text → Bool
is_composite_named es text = option_map_or is_composite (kind_named es text) false

-- the field of that name of the type of that name
abbrev pub field_on : List EntryOf → (type_name text : Text) → Option FieldOf
field_on es type_name text =
    if bytes_eq text typename
    then (if is_composite_named es type_name then Some typename_field else None)
    else option_map (λ f. record { type_ref = f.type_ref; arguments = f.arguments }) (field_named es type_name text)

-- the field that a selection names, where the type of its parent is known
abbrev pub selected_field : List EntryOf → Option Text → Text → Option FieldOf
selected_field es parent text = option_and_then (λ type_name. field_on es type_name text) parent

-- The type of the parent of the selections in a selection's braces: the type of the field, or the type condition. It is
-- none where the field is not known.
abbrev pub parent_below : List EntryOf → Option Text → Head Span → Option Text
parent_below es parent (field alias name arguments directives braces place) = option_map (λ f. base_name f.type_ref) (selected_field es parent name.text)
parent_below es parent (spread name directives place) = parent
parent_below es parent (inline None directives braces place) = parent
parent_below es parent (inline (Some condition) directives braces place) = Some condition.text

-- a selection, the number of its document, and the type of its parent where that is known
pub record SelectedOf : Type 0 where
  pub file : ℕ
  pub parent : Option Text
  pub selection : Sel Span

-- a selection stands among these, at any depth, and its parent has that type
pub data IsSelectionWithin (es : List EntryOf) : Option Text → Sels Span → Option Text → Sel Span → Type 0 where
  here : {parent : Option Text} {head : Head Span} {below rest : Sels Span} →
      IsSelectionWithin es parent (more head below rest) parent (record { label = head; below = below })
  within : {parent inner : Option Text} {head : Head Span} {below rest : Sels Span} {selection : Sel Span} →
      IsSelectionWithin es (parent_below es parent head) below inner selection → IsSelectionWithin es parent (more head below rest) inner selection
  after : {parent inner : Option Text} {head : Head Span} {below rest : Sels Span} {selection : Sel Span} →
      IsSelectionWithin es parent rest inner selection → IsSelectionWithin es parent (more head below rest) inner selection

-- The parent of an operation's selections is the root operation type of its kind (section 3.3.1), that of a fragment's
-- its type condition.
abbrev pub IsOfOperation : List EntryOf → OperationOf → SelectedOf → Type 0
IsOfOperation es o s = (s.file ≡ o.file) × IsSelectionWithin es (root_of es o.kind) o.set s.parent s.selection

abbrev pub IsOfFragment : List EntryOf → FragmentOf → SelectedOf → Type 0
IsOfFragment es f s = (s.file ≡ f.file) × IsSelectionWithin es (Some f.on.text) f.set s.parent s.selection

-- a selection of an operation or of a fragment
pub data IsSelected (es : List EntryOf) (os : List OperationOf) (fs : List FragmentOf) (s : SelectedOf) : Type 0 where
  of_operation : {o : OperationOf} → Contains os o → IsOfOperation es o s → IsSelected es os fs s
  of_fragment : {f : FragmentOf} → Contains fs f → IsOfFragment es f s → IsSelected es os fs s

-- the same as lists
abbrev pub selected_among : List EntryOf → ℕ → Option Text → Sels Span → List SelectedOf
selected_among es file parent none = []
selected_among es file parent (more head below rest) =
    record { file = file; parent = parent; selection = record { label = head; below = below } }
    ∷ (selected_among es file (parent_below es parent head) below ++ selected_among es file parent rest)

abbrev pub operation_selections : List EntryOf → OperationOf → List SelectedOf
operation_selections es o = selected_among es o.file (root_of es o.kind) o.set

abbrev pub fragment_selections : List EntryOf → FragmentOf → List SelectedOf
fragment_selections es f = selected_among es f.file (Some f.on.text) f.set

abbrev pub selections_of : List EntryOf → ℕ → Def Span → List SelectedOf
selections_of es file (operation kind name variables directives set braces place) = selected_among es file (root_of es kind) set
selections_of es file (fragment name on directives set braces place) = selected_among es file (Some on.text) set
selections_of es file (type_system definition) = []

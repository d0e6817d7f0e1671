-- The fields of a selection set with all fragments expanded (section 5.3.2, "the set of selections ... including visiting
-- fragments and inline fragments").
use Rattle.std.specs.Prelude.{◌≡◌, ℕ, List, Option, Some, None, Contains}
use Rattle.std.specs.Option.{option_map, option_map_or}
use Rattle.gq_text.specs.declared.place.Span.{Span}
use Rattle.gq_tree.specs.Forest.{more}
use Rattle.gq_tree.specs.Plain.{NameOf, Val, DirectiveOf, Sels, Head, field, spread, inline}
use Rattle.gq_types.specs.Entries.{Text, EntryOf}
use Rattle.gq_types.specs.Roots.{root_of}
use Rattle.gq_document.specs.Definitions.{OperationOf, FragmentOf}
use Rattle.gq_document.specs.Selections.{selected_field}
use Rattle.gq_tree.specs.NamedTypes.{base_name}
use Rattle.gq_document.specs.Executable.{ExecutableOf}

-- a selection set, the number of its document, and the type of its parent where that is known
pub record SetOf : Type 0 where
  pub file : ℕ
  pub parent : Option Text
  pub selections : Sels Span

-- A field where it stands: the number of its document, the type of its parent where that is known, and what it says. The
-- place is that of all its tokens.
pub record FieldAt : Type 0 where
  pub file : ℕ
  pub parent : Option Text
  pub alias : Option (NameOf Span)
  pub name : NameOf Span
  pub arguments : List (Val Span)
  pub place : Span
  pub below : Sels Span

-- the response key: the alias or, without one, the name
abbrev pub key : FieldAt → Text
key f = option_map_or (λ a. a.text) f.alias f.name.text

-- The parent of an operation's selections is the root operation type of its kind, that of a fragment's its type condition,
-- that of those in the braces of a field the type of the field, and in an inline fragment its type condition or, without one,
-- what it is outside.
abbrev pub operation_set : List EntryOf → OperationOf → SetOf
operation_set es o = record { file = o.file; parent = root_of es o.kind; selections = o.set }

abbrev pub fragment_set : FragmentOf → SetOf
fragment_set f = record { file = f.file; parent = Some f.on.text; selections = f.set }

abbrev pub field_set : List EntryOf → FieldAt → SetOf
field_set es f = record { file = f.file; parent = option_map (λ d. base_name d.type_ref) (selected_field es f.parent f.name.text); selections = f.below }

abbrev pub narrowed : Option (NameOf Span) → Option Text → Option Text
narrowed None parent = parent
narrowed (Some condition) parent = Some condition.text

-- A field stands in a selection set: as one of its selections, in an inline fragment, or in a fragment that a spread in it
-- names. A spread whose name several fragments have means each of them.
pub data InSet (x : ExecutableOf) : SetOf → FieldAt → Type 0 where
  here : {file : ℕ} {parent : Option Text} {alias : Option (NameOf Span)} {name : NameOf Span} {arguments : List (Val Span)} {directives : List (DirectiveOf Span)} {braces : Option Span} {place : Span} {below rest : Sels Span} →
      InSet x (record { file = file; parent = parent; selections = more (field alias name arguments directives braces place) below rest })
      (record { file = file; parent = parent; alias = alias; name = name; arguments = arguments; place = place; below = below })
  within : {file : ℕ} {parent : Option Text} {on : Option (NameOf Span)} {directives : List (DirectiveOf Span)} {braces place : Span} {below rest : Sels Span} {f : FieldAt} →
      InSet x (record { file = file; parent = narrowed on parent; selections = below }) f →
      InSet x (record { file = file; parent = parent; selections = more (inline on directives braces place) below rest }) f
  through : {file : ℕ} {parent : Option Text} {name : NameOf Span} {directives : List (DirectiveOf Span)} {place : Span} {below rest : Sels Span} {fragment : FragmentOf} {f : FieldAt} →
      Contains x.fragments fragment → name.text ≡ fragment.name.text → InSet x (fragment_set fragment) f →
      InSet x (record { file = file; parent = parent; selections = more (spread name directives place) below rest }) f
  after : {file : ℕ} {parent : Option Text} {head : Head Span} {below rest : Sels Span} {f : FieldAt} →
      InSet x (record { file = file; parent = parent; selections = rest }) f →
      InSet x (record { file = file; parent = parent; selections = more head below rest }) f

-- The selection sets that stand in the project: those of operations and of fragments, and those of fields in such a set,
-- also where the field is not known.
pub data Stands (x : ExecutableOf) : SetOf → Type 0 where
  of_operation : {o : OperationOf} → Contains x.operations o → Stands x (operation_set x.entries o)
  of_fragment : {f : FragmentOf} → Contains x.fragments f → Stands x (fragment_set f)
  of_field : {set : SetOf} {f : FieldAt} → Stands x set → InSet x set f → Stands x (field_set x.entries f)

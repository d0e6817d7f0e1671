-- The selection sets of a document (section 2.4), each with the type of its parent.
use Rattle.std.specs.Prelude.{List, [], ◌∷◌, ◌++◌, Option, Some, None}
use Rattle.gq_text.specs.declared.place.Span.{Span}
use Rattle.gq_tree.specs.Forest.{none, more}
use Rattle.gq_tree.specs.Plain.{Head, field, spread, inline, Sels, Def, operation, fragment, type_system}
use Rattle.gq_types.specs.Entries.{Text, EntryOf}
use Rattle.gq_types.specs.Roots.{root_of}
use Rattle.gq_document.specs.Selections.{parent_below}

-- a selection set: the type of its parent where that is known, the place of its braces, and what stands in them
pub record SetOf : Type 0 where
  pub parent : Option Text
  pub braces : Span
  pub selections : Sels Span

-- the set of a selection, where it has one
abbrev pub set_in : Option Text → Option Span → Sels Span → List SetOf
set_in parent None below = []
set_in parent (Some braces) below = record { parent = parent; braces = braces; selections = below } ∷ []

abbrev pub braces_in : Head Span → Option Span
braces_in (field alias name arguments directives braces place) = braces
braces_in (spread name directives place) = None
braces_in (inline on directives braces place) = Some braces

-- those of selections, at any depth, in the order of the text
abbrev pub sets_among : List EntryOf → Option Text → Sels Span → List SetOf
sets_among es parent none = []
sets_among es parent (more head below rest) =
    set_in (parent_below es parent head) (braces_in head) below ++ (sets_among es (parent_below es parent head) below ++ sets_among es parent rest)

-- The parent of an operation's selections is the root operation type of its kind (section 3.3.1), that of a fragment's
-- its type condition.
abbrev pub sets_of : List EntryOf → Def Span → List SetOf
sets_of es (operation kind name variables directives set braces place) =
    record { parent = root_of es kind; braces = braces; selections = set } ∷ sets_among es (root_of es kind) set
sets_of es (fragment name on directives set braces place) =
    record { parent = Some on.text; braces = braces; selections = set } ∷ sets_among es (Some on.text) set
sets_of es (type_system definition) = []

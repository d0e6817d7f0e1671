-- The sets of one selection, and what the code's sets stand for.
use Rattle.std.specs.Prelude.{List, ◌++◌, Option, map}
use Rattle.gq_text.specs.declared.place.Span.{Span}
use Rattle.gq_tree.specs.Plain.{Sel}
use Rattle.gq_tree.specs.Views.{sels_view}
use Rattle.gq_types.specs.Entries.{Text, EntryOf}
use Rattle.gq_types.specs.Look.{text_of}
use Rattle.gq_document.specs.Selections.{parent_below}
use Rattle.gq_document.specs.Sets.{SetOf, set_in, braces_in, sets_among}
use Rattle.gq_document.specs.declared.sets.SetIn.{SetIn}

-- the set of a selection, and those in it
abbrev pub sets_below : List EntryOf → Option Text → Sel Span → List SetOf
sets_below es parent s = set_in (parent_below es parent s.label) (braces_in s.label) s.below ++ sets_among es (parent_below es parent s.label) s.below

abbrev pub set_view : SetIn → SetOf
set_view s = record { parent = text_of s.parent; braces = s.braces; selections = sels_view s.selections.now }

abbrev pub sets_view : List SetIn → List SetOf
sets_view ss = map set_view ss

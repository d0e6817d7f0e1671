-- The selections of one selection, computed.
use Rattle.std.specs.Prelude.{ℕ, List, ◌∷◌, Option}
use Rattle.gq_text.specs.declared.place.Span.{Span}
use Rattle.gq_tree.specs.Plain.{Sel}
use Rattle.gq_types.specs.Entries.{Text, EntryOf}
use Rattle.gq_document.specs.Selections.{SelectedOf, parent_below, selected_among}

-- a selection, and those in its braces
abbrev pub selected_in : List EntryOf → ℕ → Option Text → Sel Span → List SelectedOf
selected_in es file parent s = record { file = file; parent = parent; selection = s } ∷ selected_among es file (parent_below es parent s.label) s.below

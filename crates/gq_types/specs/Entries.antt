-- The definitions and extensions of a type system (section 3), each with the document that it stands in.
use Rattle.std.specs.Prelude.{ℕ, ◌+◌, List, [], ◌∷◌, map}
use Rattle.std.specs.Arc.{arc_value}
use Rattle.gq_text.specs.declared.place.Span.{Span}
use Rattle.gq_tree.specs.Plain.{Def, operation, fragment, type_system, TypeSystemOf}
use Rattle.gq_tree.specs.Views.{type_system_view}
use Rattle.gq_types.specs.declared.entry.Entry.{Entry}

-- the bytes of a name
abbrev pub Text : Type 0
Text = List ℕ

-- a definition or extension, and the number of the document that it stands in
pub record EntryOf : Type 0 where
  pub file : ℕ
  pub definition : TypeSystemOf Span

-- an entry, and its number among all entries
pub record Numbered : Type 0 where
  pub number : ℕ
  pub entry : EntryOf

-- the entries with their numbers, the first of which is given
abbrev pub numbered_from : ℕ → List EntryOf → List Numbered
numbered_from k [] = []
numbered_from k (e ∷ es) = record { number = k; entry = e } ∷ numbered_from (k + 1) es

abbrev pub numbered : List EntryOf → List Numbered
numbered es = numbered_from 0 es

-- those of the definitions of one document, in order
abbrev pub entries_in : ℕ → List (Def Span) → List EntryOf
entries_in file [] = []
entries_in file (operation kind name variables directives set braces place ∷ ds) = entries_in file ds
entries_in file (fragment name on directives set braces place ∷ ds) = entries_in file ds
entries_in file (type_system definition ∷ ds) = record { file = file; definition = definition } ∷ entries_in file ds

-- the entries that the code's entries stand for
abbrev pub entry_view : Entry → EntryOf
entry_view e = record { file = e.file; definition = type_system_view (arc_value e.definition) }

abbrev pub entries_view : List Entry → List EntryOf
entries_view es = map entry_view es

-- What is gathered over the entries that belong to a number, computed.
use Rattle.std.specs.Prelude.{ℕ, List, [], flat_map, map, slice_get}
use Rattle.std.specs.Option.{option_map_or}
use Rattle.gq_text.specs.declared.place.Span.{Span}
use Rattle.gq_tree.specs.Plain.{NameOf, RootOf}
use Rattle.gq_tree.specs.Views.{name_of, root_view}
use Rattle.gq_type_system.specs.declared.parts.NameIn.{NameIn}
use Rattle.gq_type_system.specs.declared.parts.Part.{Part}
use Rattle.gq_type_system.specs.declared.root_entries.RootIn.{RootIn}
use Rattle.gq_types.specs.Entries.{EntryOf}
use Rattle.gq_types.specs.Joined.{In, put_in, parts_in}
use Rattle.gq_type_system.specs.Parts.{names_of_part}
use Rattle.gq_types.specs.Roots.{roots_in}

-- what is found at the entry with that number
abbrev pub at_number : {A : Type 0} → (EntryOf → List A) → List EntryOf → ℕ → List A
at_number f es number = option_map_or f (slice_get es number) []

abbrev pub at_numbers : {A : Type 0} → (EntryOf → List A) → List EntryOf → List ℕ → List A
at_numbers f es numbers = flat_map (at_number f es) numbers

abbrev pub roots_in_entry : EntryOf → List (In (RootOf Span))
roots_in_entry e = put_in e.file (roots_in e.definition)

abbrev pub part_names_in : Part → EntryOf → List (In (NameOf Span))
part_names_in part e = parts_in (names_of_part part) e

abbrev pub name_in : NameIn → In (NameOf Span)
name_in n = record { file = n.file; it = name_of n.name.now }

abbrev pub names_in : List NameIn → List (In (NameOf Span))
names_in ns = map name_in ns

abbrev pub root_in : RootIn → In (RootOf Span)
root_in r = record { file = r.file; it = root_view r.root.now }

abbrev pub roots_in_view : List RootIn → List (In (RootOf Span))
roots_in_view rs = map root_in rs

-- What is told of reserved names, in the order of the entries, computed.
use Rattle.std.specs.Prelude.{ℕ, List, [], ◌∷◌, if◌then◌else◌, flat_map, codes, nat_eq}
use Rattle.std.specs.List.{starts_with}
use Rattle.gq_text.specs.declared.place.Span.{Span}
use Rattle.gq_fault.specs.declared.code.Code.TheVariants.{ReservedName}
use Rattle.gq_fault.specs.declared.fault.Fault.{Fault}
use Rattle.gq_tree.specs.Plain.{NameOf}
use Rattle.gq_types.specs.Entries.{EntryOf, Numbered}
use Rattle.gq_types.specs.Joined.{judged}
use Rattle.gq_fault.specs.FaultPlaces.{fault_at}
use Rattle.gq_type_system.specs.Uses.{defined_names}

abbrev pub reserved_name : ℕ → NameOf Span → List Fault
reserved_name file name = if starts_with nat_eq name.text (codes "__") then fault_at file ReservedName name ∷ [] else []

abbrev pub reserved_names_in : ℕ → List (NameOf Span) → List Fault
reserved_names_in file names = flat_map (reserved_name file) names

abbrev pub reserved_names_at : Numbered → List Fault
reserved_names_at n = reserved_names_in n.entry.file (defined_names n.entry.definition)

abbrev pub reserved_names : List EntryOf → List Fault
reserved_names es = flat_map reserved_names_at (judged es)

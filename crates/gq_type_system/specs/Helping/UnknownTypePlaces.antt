-- What is told of unknown types, in the order of the entries, computed.
use Rattle.std.specs.Prelude.{ℕ, List, [], ◌∷◌, if◌then◌else◌, flat_map, is_none}
use Rattle.gq_fault.specs.declared.code.Code.TheVariants.{UnknownType}
use Rattle.gq_fault.specs.declared.fault.Fault.{Fault}
use Rattle.gq_types.specs.Entries.{EntryOf, Numbered}
use Rattle.gq_types.specs.Joined.{kind_named, judged}
use Rattle.gq_fault.specs.FaultPlaces.{fault_at}
use Rattle.gq_type_system.specs.Uses.{UseOf, used_types}

abbrev pub unknown_type : List EntryOf → ℕ → UseOf → List Fault
unknown_type es file one = if is_none (kind_named es one.name.text) then fault_at file UnknownType one.name ∷ [] else []

abbrev pub unknown_types_in : List EntryOf → ℕ → List UseOf → List Fault
unknown_types_in es file uses = flat_map (unknown_type es file) uses

abbrev pub unknown_types_at : List EntryOf → Numbered → List Fault
unknown_types_at es n = unknown_types_in es n.entry.file (used_types n.entry.definition)

abbrev pub unknown_types : List EntryOf → List Fault
unknown_types es = flat_map (unknown_types_at es) (judged es)

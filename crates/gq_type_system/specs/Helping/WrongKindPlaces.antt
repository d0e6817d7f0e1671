-- What is told of types of wrong kinds, in the order of the entries, computed.
use Rattle.std.specs.Prelude.{ℕ, true, List, [], ◌∷◌, if◌then◌else◌, flat_map}
use Rattle.std.specs.Option.{option_map_or}
use Rattle.gq_fault.specs.declared.code.Code.TheVariants.{WrongKindOfType}
use Rattle.gq_fault.specs.declared.fault.Fault.{Fault}
use Rattle.gq_types.specs.Entries.{EntryOf, Numbered}
use Rattle.gq_types.specs.Joined.{kind_named, judged}
use Rattle.gq_fault.specs.FaultPlaces.{fault_at}
use Rattle.gq_type_system.specs.Uses.{UseOf, used_types}
use Rattle.gq_type_system.specs.WrongKind.{suits}

abbrev pub wrong_kind : List EntryOf → ℕ → UseOf → List Fault
wrong_kind es file one = if option_map_or (suits one.wants) (kind_named es one.name.text) true then [] else fault_at file WrongKindOfType one.name ∷ []

abbrev pub wrong_kinds_in : List EntryOf → ℕ → List UseOf → List Fault
wrong_kinds_in es file uses = flat_map (wrong_kind es file) uses

abbrev pub wrong_kinds_at : List EntryOf → Numbered → List Fault
wrong_kinds_at es n = wrong_kinds_in es n.entry.file (used_types n.entry.definition)

abbrev pub wrong_kinds : List EntryOf → List Fault
wrong_kinds es = flat_map (wrong_kinds_at es) (judged es)

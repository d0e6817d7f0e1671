use Rattle.std.proofs.Common.{◌≡◌, ◌++◌, drop, flat_map}
use Rattle.gq_types.specs.Entries.{numbered_from}
use Rattle.gq_type_system.specs.Helping.EndlessInputsPlaces.{endless_input, endless_inputs}
use Rattle.gq_types.specs.Look.{types_view}
use Rattle.gq_type_system.proofs.endless_inputs.add_marked.Given as goal

abbrev pub invariant-loop-number : goal.invariant-loop-number
invariant-loop-number l =
    l.faults.items ++ flat_map (endless_input (types_view l.types) l.by_non_null l.by_default) (numbered_from l.number (drop l.number (types_view l.types)))
    ≡ l.initial.faults.items ++ endless_inputs (types_view l.types) l.by_non_null l.by_default

use Rattle.std.proofs.Common.{◌≡◌, ◌++◌, drop, flat_map}
use Rattle.gq_type_system.specs.Helping.EndlessInputsPlaces.{required_at}
use Rattle.gq_types.specs.Look.{types_view}
use Rattle.gq_type_system.proofs.required_inputs.required_of.Given as goal

abbrev pub invariant-loop-joined : goal.invariant-loop-joined
invariant-loop-joined l =
    l.row.items ++ flat_map (required_at (types_view l.types) l.type_name) (drop l.joined-index l.joined-items)
    ≡ flat_map (required_at (types_view l.types) l.type_name) l.joined-items

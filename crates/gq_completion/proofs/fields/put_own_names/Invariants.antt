use Rattle.std.proofs.Common.{◌≡◌, ◌++◌, drop, flat_map}
use Rattle.gq_types.specs.Look.{types_view}
use Rattle.gq_completion.specs.Helping.FieldNames.{own_names_at, own_names}
use Rattle.gq_completion.proofs.fields.put_own_names.Given as goal

abbrev pub invariant-loop-part : goal.invariant-loop-part
invariant-loop-part l =
    l.names.items ++ flat_map (own_names_at (types_view l.types)) (drop l.part-index l.part-items) ≡ l.initial.names.items ++ own_names (types_view l.types) l.number

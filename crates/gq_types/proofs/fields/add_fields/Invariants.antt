use Rattle.std.proofs.Common.{◌≡◌, ◌++◌, drop, map}
use Rattle.gq_types.specs.Helping.Tables.{places_from}
use Rattle.gq_types.proofs.fields.add_fields.Given as goal

-- what was put, and what the other fields add
abbrev pub invariant-loop-index : goal.invariant-loop-index
invariant-loop-index l =
    (l.table.names ++ map (λ f. f.name.text) (drop l.index l.fields) ≡ l.initial.table.names ++ map (λ f. f.name.text) l.fields)
    × (l.table.values.items ++ places_from l.entry l.index (drop l.index l.fields) ≡ l.initial.table.values.items ++ places_from l.entry 0 l.fields)

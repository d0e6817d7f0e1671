use Rattle.std.proofs.Common.{◌≡◌, ◌++◌, drop}
use Rattle.gq_types.specs.Entries.{entries_view}
use Rattle.gq_types.specs.Helping.FieldTables.{field_names_at, field_places_at}
use Rattle.gq_types.proofs.fields.table_for.Given as goal

-- what was put, and what the other entries add
abbrev pub invariant-loop-number : goal.invariant-loop-number
invariant-loop-number l =
    let es = entries_view l.entries in
    (l.table.names ++ field_names_at es (drop l.number-index l.numbers) ≡ field_names_at es l.numbers)
    × (l.table.values.items ++ field_places_at es (drop l.number-index l.numbers) ≡ field_places_at es l.numbers)

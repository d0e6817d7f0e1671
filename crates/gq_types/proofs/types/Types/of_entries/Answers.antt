use Rattle.gq_types.proofs.EntryTablesLemmas.{index_made}
use Rattle.gq_types.proofs.types.Types.of_entries.Goals as goal

pub invariant_of-result : goal.invariant_of-result
invariant_of-result c =
    let split = c.split-fields in
    index_made _ c.in_ok-joined.joined.items c.in_ok-tables.tables c.in_ok-roots.roots c.in_ok-declarers.declarers c.in_ok-typename_type.typename_type
    split.result.0 split.result.1 split.result.2 c.schema_number.result c.numbers_at-schema.result.now split.ensures.fields split.ensures.parts split.ensures.uses
    c.in_ok-joined.ensures (rw c.entries-2.ensures at c.in_ok-tables.ensures) (rw c.deref-3.ensures.value at c.in_ok-declarers.ensures)
    c.schema_number.ensures.is (rw c.deref.ensures.value at c.numbers_at-schema.ensures) (rw c.entries.ensures at c.in_ok-roots.ensures) c.in_ok-typename_type.ensures

use Rattle.gq_types.specs.Entries.{entries_view}
use Rattle.gq_types.specs.Helping.Index.{AreTablesBelow}
use Rattle.gq_types.proofs.tables.EntryTables.of.Given as goal

-- what is kept of the entries so far
abbrev pub invariant-loop-number : goal.invariant-loop-number
invariant-loop-number l = AreTablesBelow (entries_view l.entries) l.number l.tables

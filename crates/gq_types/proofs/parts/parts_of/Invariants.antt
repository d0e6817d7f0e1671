use Rattle.std.proofs.Common.{◌≡◌, drop}
use Rattle.std.specs.List.{fold}
use Rattle.gq_types.specs.Entries.{entries_view}
use Rattle.gq_types.specs.Helping.Tables.{add_entry, lists_in, parts_at}
use Rattle.gq_types.proofs.parts.parts_of.Given as goal

abbrev pub invariant-loop-number : goal.invariant-loop-number
invariant-loop-number l = fold (add_entry (entries_view l.entries)) (lists_in l.parts) (drop l.number-index l.numbers) ≡ parts_at (entries_view l.entries) l.numbers

use Rattle.std.proofs.Common.{◌≡◌, ◌++◌, drop}
use Rattle.gq_types.specs.Entries.{entries_view}
use Rattle.gq_types.specs.Helping.Tables.{directive_key, names_in, numbers_in}
use Rattle.gq_types.proofs.definitions.directive_names.Given as goal

-- what is noted, and what the other entries add
abbrev pub invariant-loop-number : goal.invariant-loop-number
invariant-loop-number l =
    (l.names.names ++ names_in directive_key (entries_view (drop l.number l.entries)) ≡ names_in directive_key (entries_view l.entries))
    × (l.names.values.items ++ numbers_in directive_key l.number (entries_view (drop l.number l.entries)) ≡ numbers_in directive_key 0 (entries_view l.entries))

use Rattle.std.proofs.Common.{◌≡◌, ◌+◌, drop}
use Rattle.std.specs.List.{position_or_len}
use Rattle.gq_types.specs.Entries.{entries_view}
use Rattle.gq_types.specs.Joined.{is_schema}
use Rattle.gq_types.proofs.definitions.schema_place.Given as goal

abbrev pub invariant-loop-number : goal.invariant-loop-number
invariant-loop-number l = l.number + position_or_len (λ e. is_schema e.definition) (entries_view (drop l.number l.entries)) ≡ position_or_len (λ e. is_schema e.definition) (entries_view l.entries)

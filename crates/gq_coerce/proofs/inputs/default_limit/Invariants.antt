use Rattle.std.proofs.Common.{◌≡◌, ◌+◌, ◌*◌, ◌^◌, ◌≤◌, ◌<◌, suc, drop, length}
use Rattle.gq_types.specs.Entries.{entries_view}
use Rattle.gq_types.specs.Look.{types_view}
use Rattle.gq_coerce.specs.Literals.{input_count}
use Rattle.gq_coerce.proofs.inputs.default_limit.Given as goal

abbrev pub invariant-loop-entry : goal.invariant-loop-entry
invariant-loop-entry l =
    (l.limit + input_count (entries_view (drop l.entry-index l.entry-items)) ≡ suc (input_count (types_view l.types))) × (l.limit ≤ 1 + l.entry-index * 2 ^ 64) × (length l.entry-items < 2 ^ 64)

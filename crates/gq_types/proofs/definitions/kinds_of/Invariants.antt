use Rattle.std.proofs.Common.{◌≡◌, ◌++◌, drop, map}
use Rattle.gq_types.specs.Entries.{entries_view}
use Rattle.gq_types.specs.Joined.{kind_in}
use Rattle.gq_types.proofs.definitions.kinds_of.Given as goal

abbrev pub invariant-loop-entry : goal.invariant-loop-entry
invariant-loop-entry l = l.kinds.items ++ map (λ e. kind_in e.definition) (entries_view (drop l.entry-index l.entries)) ≡ map (λ e. kind_in e.definition) (entries_view l.entries)

use Rattle.std.proofs.Common.{◌≡◌, ◌++◌, drop, map}
use Rattle.gq_coerce.proofs.values.entry_names.Given as goal

abbrev pub invariant-loop-entry : goal.invariant-loop-entry
invariant-loop-entry l = l.names ++ map (λ e. e.name) (drop l.entry-index l.entries) ≡ map (λ e. e.name) l.entries

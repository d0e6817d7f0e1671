use Rattle.std.proofs.Common.{◌≡◌, ◌+◌, drop}
use Rattle.std.specs.List.{prefix_len}
use Rattle.gq_cut.specs.Helping.Runs.{stands_in}
use Rattle.gq_cut.proofs.edits.run_length.Given as goal

abbrev pub invariant-loop-count : goal.invariant-loop-count
invariant-loop-count l = l.count + prefix_len (stands_in l.file) (drop l.count l.places) ≡ prefix_len (stands_in l.file) l.places

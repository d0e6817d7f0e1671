-- The faults of mixed documents among those that are marked.
use Rattle.std.specs.Prelude.{ℕ, Bool, false, List, [], if◌then◌else◌, slice_index_or}
use Rattle.gq_tree.specs.Readings.{ParsedOf}
use Rattle.gq_fault.specs.declared.fault.Fault.{Fault}
use Rattle.gq_known.specs.MixedFaults.{mixed_at}

-- so of a document that is marked
abbrev pub marked_mixed_at : List Bool → ℕ → ParsedOf → List Fault
marked_mixed_at marks file reading = if slice_index_or marks file false then mixed_at file reading else []

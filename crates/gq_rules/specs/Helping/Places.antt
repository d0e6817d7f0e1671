-- The faults of documents without a tree, computed, and with those of mixed ones.
use Rattle.std.specs.Prelude.{ℕ, List, [], ◌∷◌}
use Rattle.gq_fault.specs.declared.code.Code.TheVariants.{Syntax, OverLimit}
use Rattle.gq_fault.specs.declared.fault.Fault.{Fault}
use Rattle.gq_tree.specs.Readings as reading
use Rattle.gq_tree.specs.Readings.{ParsedOf}
pub use Rattle.gq_known.specs.MixedFaults.{mixed_fault, mixed_at, each_from}
use Rattle.gq_rules.specs.Unread.{fault_before}

abbrev pub unread_at : ℕ → ParsedOf → List Fault
unread_at file (reading.tree document) = []
unread_at file (reading.syntax place) = fault_before file Syntax place ∷ []
unread_at file (reading.limit place) = fault_before file OverLimit place ∷ []

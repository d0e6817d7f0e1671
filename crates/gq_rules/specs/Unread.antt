-- A document has a tree (section 2.2). Where its text has none, the place of the fault is told.
use Rattle.std.specs.Prelude.{◌≡◌, ℕ, List, Some, slice_get}
use Rattle.gq_fault.specs.declared.code.Code.{Code}
use Rattle.gq_fault.specs.declared.code.Code.TheVariants.{Syntax, OverLimit}
use Rattle.gq_fault.specs.declared.fault.Fault.{Fault}
use Rattle.gq_tree.specs.Readings.{ParsedOf}
use Rattle.gq_tree.specs.Readings as reading

-- a fault that marks no text
abbrev pub fault_before : ℕ → Code → ℕ → Fault
fault_before file code place = record { file = file; start = place; code = code; end = place }

pub data IsUnread (readings : List ParsedOf) (fault : Fault) : Type 0 where
  syntax : {file place : ℕ} → slice_get readings file ≡ Some (reading.syntax place) → fault ≡ fault_before file Syntax place → IsUnread readings fault
  limit : {file place : ℕ} → slice_get readings file ≡ Some (reading.limit place) → fault ≡ fault_before file OverLimit place → IsUnread readings fault

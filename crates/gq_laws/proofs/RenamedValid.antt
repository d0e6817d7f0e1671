-- Renames keep projects valid.
pub mod Reading
pub mod Stays
pub mod RenamedUses
pub mod RenamedVariables
pub mod RenamedReading
pub mod RenamedGroup
pub mod RenamedFaults
pub mod RulesAgree
pub mod SameRenamed
pub mod RenamedMerging
pub mod EachReached
pub mod VariablesMerge
pub mod VariablesStay

-- Sets of files that no spread leaves.
pub mod Within
pub mod Merging
pub mod Spreading
pub mod Variables
pub mod ByNames
pub mod Replaced
pub mod Renumbered
pub mod RenumberedMerging
pub mod RenumberedSpreads
pub mod RenumberedVariables
pub mod RenumberedRules
pub mod Inserted
pub mod Rules

pub mod Spreads
pub mod FragmentsMustBeUsed
pub mod FragmentSpreadTargetDefined
pub mod FragmentSpreadsMustNotFormCycles
pub mod SpreadFaults
pub mod Helping

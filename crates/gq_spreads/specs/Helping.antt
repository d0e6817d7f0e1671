-- What only helps to prove that the code does what the definitions say. No contract of a public call is about it.
pub mod FragmentSpreadTargetDefinedPlaces
pub mod FragmentSpreadsMustNotFormCyclesPlaces
pub mod FragmentsMustBeUsedPlaces
pub mod Links
pub mod NameRows
pub mod Rows

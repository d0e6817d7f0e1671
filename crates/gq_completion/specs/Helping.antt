-- What only helps to prove that the code does what the definitions say. No contract of a public call is about it.
pub mod Completed
pub mod FieldNames
pub mod Fragments
pub mod Labels
pub mod Variables

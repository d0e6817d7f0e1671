-- What only helps to prove that the code does what the definitions say. No contract of a public call is about it.
pub mod Again
pub mod Alike
pub mod Behind
pub mod Leading
pub mod UsesNothing
pub mod UsesPlaces
pub mod VariablePlaces
pub mod Views

pub mod Literals
pub mod ExpectedTypes
pub mod LiteralFaults
pub mod ArgumentFaults
pub mod DirectiveFaults
pub mod ArgumentPlaces
pub mod DirectivePlaces
pub mod LiteralPlaces

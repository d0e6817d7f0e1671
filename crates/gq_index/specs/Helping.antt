-- What only helps to prove that the code does what the definitions say. No contract of a public call is about it.
pub mod GroupGraphs
pub mod Made
pub mod PartVariables
pub mod PlacedParts
pub mod Seats
pub mod Shared
pub mod SpreadNumbers
pub mod SpreadPlaces
pub mod StandingParts

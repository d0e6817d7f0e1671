-- What only helps to prove that the code does what the definitions say. No contract of a public call is about it.
pub mod Expected
pub mod From
pub mod Locations
pub mod Parts
pub mod Phrases
pub mod Telling
pub mod Words

-- What only helps to prove that the code does what the definitions say. No contract of a public call is about it.
pub mod Forms
pub mod Heights
pub mod Inputs
pub mod Order
pub mod Readings
pub mod Views
pub mod Wrapping

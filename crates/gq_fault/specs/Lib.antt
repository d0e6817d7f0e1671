pub mod Codes
pub mod Laws
pub mod Adds
pub mod Order
pub mod Tells
pub mod FaultPlaces

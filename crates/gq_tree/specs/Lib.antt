pub mod Forest
pub mod Plain
pub mod Views
pub mod Names
pub mod Same
pub mod NamedTypes
pub mod Wrapping
pub mod Readings

pub mod Escapes
pub mod Faults

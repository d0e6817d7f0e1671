pub mod Diagnostics
pub mod Helping
pub mod Words

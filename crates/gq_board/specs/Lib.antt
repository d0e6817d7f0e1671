pub mod Published
pub mod Helping

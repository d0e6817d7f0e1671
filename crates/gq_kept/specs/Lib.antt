pub mod KeptOf
pub mod Helping

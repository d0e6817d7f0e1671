pub mod Repeats
pub mod UnderNames
pub mod Helping

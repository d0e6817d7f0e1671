pub mod Cut
pub mod Helping

pub mod Helping

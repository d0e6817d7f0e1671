-- What only helps to prove that the code does what the definitions say. No contract of a public call is about it.
pub mod About
pub mod Fitting
pub mod Fragments
pub mod Judged
pub mod Limits
pub mod Limited
pub mod Making
pub mod Rereading
pub mod Steps

pub mod Answers
pub mod Operations
pub mod Helping

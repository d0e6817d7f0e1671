pub mod Tokens
pub mod Sets
pub mod Completions
pub mod Laws
pub mod Helping

-- What only helps to prove that the code does what the definitions say. No contract of a public call is about it.
pub mod ByDocument
pub mod Compared
pub mod Facts
pub mod Gathered
pub mod Gone
pub mod Held
pub mod Judgements
pub mod Noted
pub mod ReadsOn
pub mod Selected
pub mod Texts
pub mod TypesOf
pub mod Unindexed
pub mod Unseen

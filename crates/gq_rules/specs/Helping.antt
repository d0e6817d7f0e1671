-- What only helps to prove that the code does what the definitions say. No contract of a public call is about it.
pub mod Halves
pub mod Places
pub mod Reported
pub mod RuleGroups
pub mod Wrongs

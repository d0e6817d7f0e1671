-- What only helps to prove that the code does what the definitions say. No contract of a public call is about it.
pub mod Alone
pub mod ByNames
pub mod Covers
pub mod Learned
pub mod Links
pub mod Marks
pub mod Moved
pub mod SameNames
pub mod Told

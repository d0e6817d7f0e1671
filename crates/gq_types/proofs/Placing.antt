-- What is seen in type systems that are equal but for their places.
pub mod Lists
pub mod Alike
pub mod Outlines
pub mod Entries
pub mod Parts
pub mod Required
pub mod Roots
pub mod Names
pub mod Index
pub mod Exchanged

-- A valid project in which selections were moved is valid.
pub mod Faultless
pub mod Removed
pub mod Extracted
pub mod InlinedSpread
pub mod Inlined

-- Texts from which selections were cut, or into which they were put, read as the rewritten trees.
pub mod Standing
pub mod Texts
pub mod Removed
pub mod Extracted
pub mod Inlined

-- Sets of files that no spread leaves.
pub mod RestsOnNames
pub mod Closed
pub mod Laws

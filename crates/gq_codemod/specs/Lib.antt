pub mod Edits
pub mod Renames

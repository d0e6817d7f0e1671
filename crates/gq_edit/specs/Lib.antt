pub mod Replacements
pub mod Edits
pub mod Workspace
pub mod Helping

-- Fields that merge after an edit moved them as they did before.
pub mod Rewritten
pub mod Restated
pub mod Edits

pub mod Mentions
pub mod Meant
pub mod Renameables
pub mod Targets
pub mod Views
